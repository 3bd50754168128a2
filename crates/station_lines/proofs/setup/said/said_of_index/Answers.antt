use Rattle.std.proofs.Common.{◌≡◌, true, false, sym, ◌∙◌}
use Rattle.std.specs.Prelude.{◌⊎◌, is_some}
use mathlib.Core.Logic.{inl, inr}
use Rattle.station_lines.specs.Setup.{short_name}
use Rattle.station_lines.proofs.SetupLaws.LineLaws.{index_read, unnamed_index}
use Rattle.station_lines.proofs.setup.said.said_of_index.Goals.{then-not-is_short_name-via-then-not-is_short_name, then-not-is_short_name-via-else-not-is_short_name+then-not-is_short_name-2}
use Rattle.station_lines.proofs.setup.said.said_of_index.Goals as goal

pub returns-then-not-is_short_name : goal.returns-then-not-is_short_name
returns-then-not-is_short_name c = record {
  value = λ all are.
      let table = c.in_ok-table.table.now in
      let name = c.in_ok-name.name.now in
      let none : (is_some (short_name table) ≡ false) ⊎ (is_some (short_name name) ≡ false) = elim c.then-not-is_short_name.branch [
        | then-not-is_short_name-via-then-not-is_short_name w ↦ inl (sym c.is_short_name.ensures.value ∙ w.if-not-is_short_name.true)
        | then-not-is_short_name-via-else-not-is_short_name+then-not-is_short_name-2 w ↦ inr (sym w.is_short_name-else-not-is_short_name.ensures.value ∙ w.if-not-is_short_name-2.true)
      ] in
      let after = c.in_ok-table.ensures.only all are in
      let last = c.in_ok-name.ensures.only after.0 after.1 in
      unnamed_index all after.0 last.0 table name c.in_ok-ndx.ndx.now none after.2 last.2 (c.in_ok-ndx.ensures.value last.0 last.1);
}

pub returns : goal.returns
returns c = record {
  value = λ all are.
      let table : is_some (short_name c.in_ok-table.table.now) ≡ true = sym c.if-not-is_short_name.ensures.value in
      let name : is_some (short_name c.in_ok-name.name.now) ≡ true = sym c.if-not-is_short_name-2.ensures.value in
      let after = c.in_ok-table.ensures.only all are in
      let last = c.in_ok-name.ensures.only after.0 after.1 in
      index_read all after.0 last.0 c.in_ok-table.table.now c.in_ok-name.name.now c.in_ok-ndx.ndx.now table name after.2 last.2 (c.in_ok-ndx.ensures.value last.0 last.1);
}
