use Rattle.std.proofs.Common.{◌≡◌, ◌-◌, sym, ◌∙◌, arith}
use Rattle.dbf_image.proofs.Chunks.{room-next}
use Rattle.dbf_image.proofs.Steps.{less-next}
use Rattle.dbf_image.proofs.PlainRows.{flags-next}
use Rattle.dbf_image.proofs.dbf.rows.are_written_flags.Goals as goal

pub loop-init : goal.loop-init
loop-init c =
    let all : c.args.count - 0 ≡ c.args.count = omega arith in
    rw all (record { room = c.requires.room; left = λ flags. flags })

pub split_at-requires : goal.split_at-requires
split_at-requires c = omega (arith, less-next c.args.count c.loop.counter c.args.size c.loop-test.true, c.loop.invariant.room)

pub loop-preserved : goal.loop-preserved
loop-preserved c =
    let count = c.args.count in
    let size = c.args.size in
    let i = c.loop.counter in
    let lt = c.loop-test.true in
    let here = rw c.split_at.ensures.front at (sym c.flag_of.ensures.value ∙ c.if-flag_of-record.false) in
    record {
      room = room-next size count i _ _ lt c.loop.invariant.room c.split_at.ensures.back_len;
      left = rw c.split_at.ensures.back (λ later. c.loop.invariant.left (flags-next size count i c.loop.rest.now lt here later));
    }
