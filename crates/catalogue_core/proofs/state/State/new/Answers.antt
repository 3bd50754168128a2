use Rattle.std.proofs.Common.{ℕ, [], length, map, ap, sym, ◌∙◌}
use Rattle.lock_table.specs.Locks.{held}
use Rattle.catalogue_core.specs.declared.opening.OpenedTable.{OpenedTable}
use Rattle.catalogue_core.proofs.OpeningLaws.{opened_start}
use Rattle.catalogue_core.proofs.state.State.new.Goals as goal

pub returns : goal.returns
returns c = record {
  value = opened_start _ _ _ _ c.args.stations c.args.opened.items
      (c.in_ok-names.ensures.value ∙ ap (map (λ (t : OpenedTable). t.name)) c.deref.ensures.value)
      c.in_ok-tables.ensures.value
      (c.in_ok-locks.ensures.value ∙ ap (λ (k : ℕ). held c.args.stations k []) (c.len.ensures ∙ sym c.deref.ensures.len ∙ ap length c.deref.ensures.value))
      c.in_ok-stations.ensures.value;
}
