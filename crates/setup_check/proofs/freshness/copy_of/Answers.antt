use Rattle.std.proofs.Common.{◌<◌, ◌∙◌, ap, sym, length, arith}
use Rattle.ndx_index.specs.declared.pair.Pair.{Pair}
use Rattle.setup_check.proofs.PairLaws.{key_long}
use Rattle.setup_check.proofs.freshness.copy_of.Goals as goal

pub push-requires : goal.push-requires
push-requires c =
    let pairs = c.args.pairs.now in
    let lt : c.loop-at.at < length pairs.pairs = omega (arith, c.loop-at-test.true, c.len-at-end.ensures.count) in
    record { key = ap (λ (p : Pair). length p.key) c.get.ensures.pair ∙ key_long pairs.key_len pairs.pairs c.loop-at.at c.key_len.ensures.keys lt ∙ sym c.loop-at.invariant.key_len }
