use Rattle.std.proofs.Common.{◌||◌, ◌-◌, ◌==◌, ◌∙◌, ℕ, [], List, length, ap, sym, subst, ◌<◌, arith}
use Rattle.std.specs.List.{list_any}
use Rattle.std.proofs.lemmas.List.{get_or_read}
use Rattle.lock_table.specs.declared.TheConstants.{MAX_RECORD_LOCKS}
use Rattle.lock_table.specs.Numbers.{IsTableOrRecords}
use Rattle.lock_table.specs.Locks.{lets_write}
use Rattle.lock_table.proofs.Each.{each_at}
use Rattle.lock_table.proofs.Rows.{own_row}
use Rattle.lock_table.proofs.locks.Locks.may_write.Goals as goal

pub returns-clause-value : goal.returns-clause-value
returns-clause-value c =
    let s = c.args.station in
    let row = c.row.result.now in
    let there : s - 1 < length row = omega (arith, c.row.ensures.length) in
    let at = get_or_read row (s - 1) c.index-row-own.result there c.index-row-own.is [] in
    c.covers.ensures.value
    ∙ ap (list_any (λ n. n == c.args.number || n == 0)) at
    ∙ sym (ap (list_any (lets_write s c.args.number)) c.row.ensures.locks ∙ own_row c.args.table s c.args.number 1 (s - 1) row (omega arith) there)

pub returns-clause-own : goal.returns-clause-own
returns-clause-own c =
    let s = c.args.station in
    let row = c.row.result.now in
    let P : List ℕ → Type 0 = IsTableOrRecords MAX_RECORD_LOCKS in
    subst P (sym (c.row.ensures.own s c.requires.station c.requires.stations)) (each_at row (s - 1) c.row.ensures.each (omega (arith, c.row.ensures.length))).allowed
