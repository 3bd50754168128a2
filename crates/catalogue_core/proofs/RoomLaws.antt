-- A table that is planned for or edited, among the tables with their room.
use Rattle.std.proofs.Common.{◌≡◌, ℕ, zero, suc, ◌-◌, ◌<◌, List, [], ◌∷◌, length, map, slice_set, slice_index_or, Some, refl, sym, ap, subst, ◌∙◌, arith}
use Rattle.std.proofs.Math.Seq.{map-set_same}
use Rattle.std.proofs.Math.ListN.{get_or-map}
use Rattle.std.proofs.lemmas.List.{map-set, length-map}
use Rattle.table_core.specs.declared.cursor.Cursor.{Cursor}
use Rattle.table_core.specs.declared.edits.planned.Planned.{Planned}
use Rattle.table_core.specs.Content.{Content, Held}
use Rattle.table_core.specs.Planned.{changed, cursor_after}
use Rattle.catalogue_core.specs.declared.area.Area.{Area}
use Rattle.catalogue_core.specs.declared.area.Station.{Station}
use Rattle.catalogue_core.specs.Planned.{with_planned}
use Rattle.catalogue_core.specs.Rooms.{WithRoom, seen, no_held}
use Rattle.catalogue_core.specs.State.{table_of, with_area_in, area_with, IsArea}

-- a table of an index is another, and so are the stations
abbrev pub with_held_at : WithRoom → ℕ → Held → List Station → WithRoom
with_held_at w index h stations = record { names = w.names; tables = slice_set w.tables index h; locks = w.locks; stations = stations }

-- the content of one is another
pub other_content : (tables : List Held) (index : ℕ) (h : Held) (content : Content) → h.content ≡ content → map (λ (t : Held). t.content) (slice_set tables index h) ≡ slice_set (map (λ (t : Held). t.content) tables) index content
other_content tables index h content e = map-set (λ (t : Held). t.content) tables index h ∙ ap (λ (x : Content). slice_set (map (λ (t : Held). t.content) tables) index x) e

-- the state is the same where only the room of one table is another
pub same_seen : (w v : WithRoom) (index : ℕ) (h t : Held) → w ≡ v → t ≡ slice_index_or w.tables index t → h.content ≡ t.content → seen (with_held_at w index h w.stations) ≡ seen v
same_seen w v index h t is at same =
    ap (λ (tables : List Content). record { names = w.names; tables = tables; locks = w.locks; stations = w.stations }) (map-set_same (λ (x : Held). x.content) w.tables index h t (same ∙ ap (λ (x : Held). x.content) at))
    ∙ ap seen is

at_any : {X : Type 0} (xs : List X) (i : ℕ) (a b : X) → i < length xs → slice_index_or xs i a ≡ slice_index_or xs i b
at_any [] i a b h = absurd (omega arith)
at_any (x ∷ xs) zero a b h = refl
at_any (x ∷ xs) (suc i) a b h = at_any xs i a b (omega arith)

-- the table of an area, by its room or without
pub content_of_area : (w : WithRoom) (area : Area) (t : Held) → IsArea (seen w).tables area → t ≡ slice_index_or w.tables (area.table - 1) t → t.content ≡ table_of (seen w) area
content_of_area w area t there at =
    let inside : area.table - 1 < length w.tables = omega (arith, there.counted, there.inside, length-map w.tables (λ (x : Held). x.content)) in
    ap (λ (x : Held). x.content) (at ∙ at_any w.tables (area.table - 1) t no_held inside)
    ∙ sym (get_or-map (λ (x : Held). x.content) w.tables (area.table - 1) no_held)

-- the current area's table and cursor after a planned edit
edited_here : (w : WithRoom) (station : ℕ) (area : Area) (planned : Planned) (h t : Held) (cursor : Cursor) (stations : List Station)
    → IsArea (seen w).tables area → t ≡ slice_index_or w.tables (area.table - 1) t → h.content ≡ changed t.content planned → cursor ≡ cursor_after t.content area.cursor planned
    → stations ≡ with_area_in w.stations station (Some (area_with area cursor)) → seen (with_held_at w (area.table - 1) h stations) ≡ with_planned (seen w) station area planned
edited_here w station area planned h t cursor stations there at content moved put =
    let here = content_of_area w area t there at in
    ap (λ (tables : List Content). record { names = w.names; tables = tables; locks = w.locks; stations = stations })
    (other_content w.tables (area.table - 1) h (changed (table_of (seen w) area) planned) (content ∙ ap (λ (x : Content). changed x planned) here))
    ∙ ap (λ (ss : List Station). record { names = w.names; tables = slice_set (seen w).tables (area.table - 1) (changed (table_of (seen w) area) planned); locks = w.locks; stations = ss })
    (put ∙ ap (λ (x : Cursor). with_area_in w.stations station (Some (area_with area x))) (moved ∙ ap (λ (x : Content). cursor_after x area.cursor planned) here))

pub edited_seen : (w v : WithRoom) (station : ℕ) (area : Area) (planned : Planned) (h t : Held) (cursor : Cursor) (stations : List Station)
    → w ≡ v → IsArea (seen v).tables area → t ≡ slice_index_or w.tables (area.table - 1) t → h.content ≡ changed t.content planned → cursor ≡ cursor_after t.content area.cursor planned
    → stations ≡ with_area_in w.stations station (Some (area_with area cursor)) → seen (with_held_at w (area.table - 1) h stations) ≡ with_planned (seen v) station area planned
edited_seen w v station area planned h t cursor stations is there at content moved put =
    let P : WithRoom → Type 0 = λ u. IsArea (seen u).tables area in
    edited_here w station area planned h t cursor stations (subst P (sym is) there) at content moved put
    ∙ ap (λ (u : WithRoom). with_planned (seen u) station area planned) is
