use Rattle.std.proofs.Common.{◌≡◌, ℕ, ◌∙◌, ◌+◌, ap, sym, arith}
use Rattle.lock_table.specs.Locks.{HeldLocks, held, without}
use Rattle.lock_table.proofs.Released.{without_first, without_first-none, without_first-more, without_first-all, inside_tables}
use Rattle.lock_table.proofs.locks.Locks.release_all.Goals as goal

pub loop-table-init : goal.loop-table-init
loop-table-init c =
    let now = c.args.self.now in
    let inside = inside_tables c.self.inside.stations c.self.inside.tables c.self.inside.slots.items now c.self.view_is c.self.invariant in
    ap (held now.stations now.tables) (sym (without_first-none now.locks c.args.station now.tables inside))

pub loop-table-preserved : goal.loop-table-preserved
loop-table-preserved c =
    let now = c.args.self.now in
    let s = c.args.station in
    let i = c.loop-table.table in
    c.release.ensures.value ∙ ap (λ (h : HeldLocks). held h.stations h.tables (without h.locks s (i + 1))) c.loop-table.invariant
    ∙ ap (held now.stations now.tables) (without_first-more now.locks s i)

pub returns : goal.returns
returns c =
    let now = c.args.self.now in
    let inside = inside_tables c.self.inside.stations c.self.inside.tables c.self.inside.slots.items now c.self.view_is c.self.invariant in
    let all : c.loop-table.table ≡ now.tables = omega (arith, ap (λ (h : HeldLocks). h.tables) c.self.view_is) in
    record { value = c.loop-table.invariant ∙ ap (λ (k : ℕ). held now.stations now.tables (without_first now.locks c.args.station k)) all ∙ ap (held now.stations now.tables) (without_first-all now.locks c.args.station now.tables inside) }
