use Rattle.std.proofs.Common.{◌≡◌, ◌-◌, ℕ, suc, take, sym, ◌∙◌, ap, arith}
use Rattle.ndx_index.specs.Header.{trimmed_end}
use Rattle.ndx_index.proofs.Texts.{trim_step, trim_stop, trim_none}
use Rattle.ndx_index.proofs.read.header.trimmed_end.Goals as goal

pub loop-end-preserved : goal.loop-end-preserved
loop-end-preserved c =
    let text = c.args.text.now in
    let n : ℕ = c.loop-end.end - 1 in
    let at : suc n ≡ c.loop-end.end = omega arith in
    record {
      within = omega arith;
      same = trim_step text n 0 (omega (arith, c.loop-end.invariant.within)) (omega arith) ∙ ap (λ (m : ℕ). trimmed_end (take m text)) at ∙ c.loop-end.invariant.same;
    }

pub returns-then-text-end-ne-BLANK : goal.returns-then-text-end-ne-BLANK
returns-then-text-end-ne-BLANK c =
    let text = c.args.text.now in
    let n : ℕ = c.loop-end.end - 1 in
    let at : suc n ≡ c.loop-end.end = omega arith in
    record { value = ap (λ (m : ℕ). take m text) (sym at) ∙ trim_stop text n 0 (omega (arith, c.loop-end.invariant.within)) c.if-text-end-ne-BLANK.true ∙ ap (λ (m : ℕ). trimmed_end (take m text)) at ∙ c.loop-end.invariant.same }

pub returns : goal.returns
returns c = record { value = trim_none c.args.text.now c.loop-end.end (omega arith) ∙ c.loop-end.invariant.same }
