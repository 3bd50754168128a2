use Rattle.std.proofs.Common.{◌≡◌, ◌∙◌, length, arith}
use Rattle.office_run.proofs.NamesLaws.{place_by_name}
use Rattle.office_run.proofs.load.position_of.Goals as goal

pub returns-then-count-tables-clause-value : goal.returns-then-count-tables-clause-value
returns-then-count-tables-clause-value c =
    let same : length c.args.names.now ≡ length c.args.tables.now = omega arith in
    c.index_of.ensures.value ∙ place_by_name c.args.names.now c.args.tables.now c.args.name.now c.requires.names same
