use Rattle.std.proofs.Common.{◌+◌, ◌∙◌, ◌&&◌, ap, sym, refl, drop, Bool, arith}
use Rattle.std.proofs.lemmas.List.{at_drop_more, at_drop_all}
use Rattle.lock_table.specs.Locks.{free_records}
use Rattle.lock_table.proofs.locks.Locks.is_free_records.Goals as goal

pub loop-i-init : goal.loop-i-init
loop-i-init c = refl

pub returns-then-not-is_free_record : goal.returns-then-not-is_free_record
returns-then-not-is_free_record c =
    let now = c.args.self.now in
    let rest = free_records now.locks c.args.station c.args.table (drop (c.loop-i.i + 1) c.args.numbers.now) in
    record { value = sym (c.loop-i.invariant ∙ at_drop_more (free_records now.locks c.args.station c.args.table) c.args.numbers.now c.loop-i.i 0 (omega arith) ∙ ap (λ (b : Bool). b && rest) (sym c.is_free_record.ensures.value ∙ c.if-not-is_free_record.true)) }

pub loop-i-preserved : goal.loop-i-preserved
loop-i-preserved c =
    let now = c.args.self.now in
    let rest = free_records now.locks c.args.station c.args.table (drop (c.loop-i.i + 1) c.args.numbers.now) in
    c.loop-i.invariant ∙ at_drop_more (free_records now.locks c.args.station c.args.table) c.args.numbers.now c.loop-i.i 0 (omega arith) ∙ ap (λ (b : Bool). b && rest) (sym c.is_free_record.ensures.value ∙ c.if-not-is_free_record.false)

pub returns : goal.returns
returns c =
    let now = c.args.self.now in
    record { value = sym (c.loop-i.invariant ∙ at_drop_all (free_records now.locks c.args.station c.args.table) c.args.numbers.now c.loop-i.i (omega arith)) }
