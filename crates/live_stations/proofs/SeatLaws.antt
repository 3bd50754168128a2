-- For how many stations the tables are opened of a setup that names live stations.
use Rattle.std.proofs.Common.{◌≡◌, ◌∙◌, ℕ, ◌+◌, ◌≤◌, Bool, cond, List, [], ◌∷◌, length, refl, sym, ap, arith}
use Rattle.std.proofs.Math.Nat.{max-eq_right}
use Rattle.std.proofs.lemmas.List.Sums.{sum_by-cons}
use Rattle.std.specs.Prelude.{max, count_by, Some, Ok}
use Rattle.catalogue_core.specs.Replay.{History, Opened}
use Rattle.folders.specs.declared.named.NamedFile.{NamedFile}
use Rattle.folders.specs.Files.{IsFileOf}
use Rattle.office_run.specs.WholeRun.{IsSaid}
use Rattle.office_run.proofs.OneOpening.{one_said}
use Rattle.station_lines.specs.declared.setup.entry.SetupEntry.{SetupEntry}
use Rattle.station_lines.specs.declared.setup.entry.SetupEntry.TheVariants.{Index, Station, Table}
use Rattle.live_day.specs.Sessions.{AreObeyed, Told}
use Rattle.live_program.specs.Openings.{names_station, seats_in, AreTablesOpened}
use Rattle.live_stations.specs.Done.{AreDone, AreNamed, AskNothing}
use Rattle.live_stations.specs.Items.{Item, named, said, item_lines}
use Rattle.live_stations.specs.Setups.{scripts_in, NamesLive}
use Rattle.live_stations.proofs.DoneLaws.{done_of_obeyed}

counted_more : (entry : SetupEntry) (entries : List SetupEntry) → count_by names_station (entry ∷ entries) ≡ cond (names_station entry) 1 0 + count_by names_station entries
counted_more entry entries = sum_by-cons (λ (e : SetupEntry). cond (names_station e) 1 0) entry entries

-- as many entries are stations' as scripts are named
scripts_counted : (entries : List SetupEntry) → count_by names_station entries ≡ length (scripts_in entries)
scripts_counted [] = refl
scripts_counted (Table name dbf dbt ∷ entries) =
    let more : count_by names_station (Table name dbf dbt ∷ entries) ≡ 0 + count_by names_station entries = counted_more (Table name dbf dbt) entries in
    let rest = scripts_counted entries in
    omega (arith, more, rest)
scripts_counted (Index table name ndx ∷ entries) =
    let more : count_by names_station (Index table name ndx ∷ entries) ≡ 0 + count_by names_station entries = counted_more (Index table name ndx) entries in
    let rest = scripts_counted entries in
    omega (arith, more, rest)
scripts_counted (Station script ∷ entries) =
    let more : count_by names_station (Station script ∷ entries) ≡ 1 + count_by names_station entries = counted_more (Station script) entries in
    let rest = scripts_counted entries in
    omega (arith, more, rest)

pub opened_for_live : (files : List NamedFile) (setup text : List ℕ) (paths : List (List ℕ)) (reindex : Bool) (opened : Opened) → IsFileOf (Some files) setup text → NamesLive text paths
    → AreTablesOpened (Some files) setup reindex opened → opened.stations ≡ length paths
opened_for_live files setup text paths reindex opened found live tables =
    let here : IsSaid (Some files) setup (Ok live.entries) = record { text = text; found = found; says = live.says } in
    let same : tables.entries ≡ live.entries = one_said files setup tables.entries live.entries tables.said here in
    let many : count_by names_station live.entries ≡ length paths = scripts_counted live.entries ∙ ap length (sym live.paths_are) in
    tables.stations ∙ ap seats_in same ∙ ap (max 1) many ∙ max-eq_right live.some

-- a station of so many is one of more
pub named_of_more : (count more : ℕ) (items : List Item) → count ≤ more → AreNamed count items → AreNamed more items
named_of_more count more [] fewer are = tt
named_of_more count more (named n ∷ items) fewer are = (are.0, omega (arith, are.1, fewer), are.2, named_of_more count more items fewer are.3)
named_of_more count more (said line ∷ items) fewer are = named_of_more count more items fewer are

pub done_of_seated : (items : List Item) (count seated next : ℕ) (old new : History) (told : List Told) → AreObeyed (item_lines items) seated old next new told → AreNamed count items
    → count ≤ old.opened.stations → AskNothing items → AreDone seated items old new told
done_of_seated items count seated next old new told obeyed are fewer nothing =
    done_of_obeyed items seated next old new told obeyed (named_of_more count old.opened.stations items fewer are) nothing
