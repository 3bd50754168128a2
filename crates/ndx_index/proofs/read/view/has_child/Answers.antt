use Rattle.std.proofs.Common.{not, ap, sym, ◌∙◌, ◌≡◌, true, arith}
use Rattle.std.proofs.lemmas.Bool.{ne_eqb}
use Rattle.ndx_index.specs.Pages.{is_null}
use Rattle.ndx_index.proofs.PageLemmas.{some_child_at}
use Rattle.ndx_index.proofs.read.view.has_child.Goals as goal

pub returns-then-u32_at-ne0 : goal.returns-then-u32_at-ne0
returns-then-u32_at-ne0 c =
    let there : not (is_null c.u32_at.result) ≡ true = ap not (ne_eqb c.u32_at.result 0 c.if-u32_at-ne0.true) in
    record { value = sym (some_child_at (λ p. not (is_null p)) c.args.layout c.args.page.now c.loop-i.i c.args.n (omega arith) (ap (λ p. not (is_null p)) (sym c.u32_at.ensures.value) ∙ there)) }
