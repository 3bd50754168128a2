use Rattle.std.proofs.Common.{◌≡◌, ◌+◌, ◌++◌, suc, take, drop, ◌∙◌, arith}
use Rattle.ndx_index.specs.Header.{before_zero}
use Rattle.ndx_index.proofs.Texts.{zero_step, zero_stop, zero_none}
use Rattle.ndx_index.proofs.read.header.before_zero.Goals as goal

pub loop-i-preserved : goal.loop-i-preserved
loop-i-preserved c =
    let text = c.args.text.now in
    let next : c.loop-i.i + 1 ≡ suc c.loop-i.i = omega arith in
    let step : take (c.loop-i.i + 1) text ++ before_zero (drop (c.loop-i.i + 1) text) ≡ take c.loop-i.i text ++ before_zero (drop c.loop-i.i text) =
    rw next (zero_step text c.loop-i.i 0 (omega arith) c.if-text-i-eq0.false) in
    step ∙ c.loop-i.invariant

pub returns-then-text-i-eq0 : goal.returns-then-text-i-eq0
returns-then-text-i-eq0 c = record { value = zero_stop c.args.text.now c.loop-i.i 0 (omega arith) c.if-text-i-eq0.true ∙ c.loop-i.invariant }

pub returns : goal.returns
returns c = record { value = zero_none c.args.text.now c.loop-i.i (omega arith) ∙ c.loop-i.invariant }
