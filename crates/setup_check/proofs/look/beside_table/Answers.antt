use Rattle.setup_check.proofs.FindingLaws.{beside_named}
use Rattle.setup_check.proofs.look.beside_table.Goals as goal

pub returns-in-Some : goal.returns-in-Some
returns-in-Some c = record {
  state = λ files before findings are h k. beside_named c.state_of.result files before findings c.args.table.now c.args.file.now _ (c.in-Some.ensures.named files before findings are h k) c.state_of.ensures.state;
}
