use Rattle.std.proofs.Common.{ap, sym, ◌∙◌, arith}
use Rattle.std.proofs.lemmas.Bool.{eq-eqb}
use Rattle.ndx_index.specs.Pages.{is_null}
use Rattle.ndx_index.proofs.PageLemmas.{some_child_at}
use Rattle.ndx_index.proofs.read.view.lacks_child.Goals as goal

pub returns-then-u32_at-eq0 : goal.returns-then-u32_at-eq0
returns-then-u32_at-eq0 c =
    record { value = sym (some_child_at is_null c.args.layout c.args.page.now c.loop-i.i c.args.n (omega arith) (ap is_null (sym c.u32_at.ensures.value) ∙ eq-eqb c.u32_at.result 0 c.if-u32_at-eq0.true)) }
