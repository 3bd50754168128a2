-- What a crash in a life leaves, and what is in the folder at its end.
use Rattle.std.proofs.Common.{◌≡◌, ◌≢◌, ◌⊎◌, ◌<◌, ◌≤◌, ◌∙◌, ℕ, zero, suc, List, [], ◌∷◌, ◌++◌, length, Option, None, Result, Ok, Err, true, false, refl, sym, ap, subst, inl, inr, ⊎_elim, lit<, arith, append_assoc, length-append}
use Rattle.std.specs.Prelude.{if◌then◌else◌, IfErr, IfOk, IsErr, IsErrAnd, OnOk}
use Rattle.std.specs.Str.{bytes_eq, IsAscii}
use Rattle.std.proofs.lemmas.Str.{is_utf8-from_IsUtf8, IsUtf8-from_ascii}
use Rattle.std.specs.List.{AllByRecursion}
use Rattle.std.proofs.lemmas.Bool.{cases_Bool}
use Rattle.std.proofs.lemmas.List.{append-nil, length-map, map-append}
use Rattle.std.proofs.lemmas.Slice.Eq.{bytes_eq-Decides}
use Rattle.catalogue_core.specs.Replay.{AreOfStations, History, IsLegal}
use Rattle.files_in_place.specs.Disk.{AfterStep, DiskMeaning, IsSyncedDisk, LeavesOnly, OnlyReads}
use Rattle.files_in_place.specs.Folder.{Folder, Name, SameBut, first_of, is_reserved, list_name, recovered}
use Rattle.files_in_place.specs.Recovery.{HasOldFiles, IsClean, IsFinished, RecoversTo, SameFree, StillRecovers}
use Rattle.files_in_place.proofs.Each.{each_by}
use Rattle.files_in_place.proofs.Ending.{unlisted_finished, without_free, without_res}
use Rattle.files_in_place.proofs.Meaning.{free_other, recovered_reserved, same_name}
use Rattle.files_in_place.proofs.Settling.{leaves_less, leaves_same}
use Rattle.files_in_place.proofs.Uncommitted.{clean_uncommitted, uncommitted_old}
use Rattle.files_in_place.specs.Staged.{is_file_name}
use Rattle.folders.proofs.SinceLaws.{leaves_as, leaves_on}
use Rattle.folders.specs.declared.named.NamedFile.{NamedFile}
use Rattle.folders.specs.Files.{file_at}
use Rattle.folders.specs.Placed.{with_files}
use Rattle.station_lines.specs.JournalLines.{line_parts, HaveSmallNumbers}
use Rattle.live_log.proofs.GateLaws.{after_shut}
use Rattle.live_log.specs.Gates.{LineParts, log_of, or_empty_log}
use Rattle.live_log.specs.Logs.{HasLog}
use Rattle.live_log.specs.Placing.{IsOldOrPlacedWith}
use Rattle.live_day.specs.Days.{DayValue, HasGoneOn, IsLogged, parts_of}
use Rattle.live_day.specs.Sessions.{IsDayRun}
use Rattle.live_day.specs.Stops.{HasLogOf, IsDayStopped}
use Rattle.live_day.proofs.SessionLaws.{obeyed_none}
use Rattle.live_day.proofs.StoppedLaws.{stopped_all, stopped_by}
use Rattle.live_day.specs.Shows.{HasFrontIn, IsKeptLine, KeepsShown, ShownLine}
use Rattle.live_day.specs.declared.keyboard.Typed.{Typed}
use Rattle.office_run.specs.TablesWritten.{dated_files}
use Rattle.program_frame.specs.Placing.{IsRecovered, RecoversAsOneOf}
use Rattle.clap.specs.Words.{Text}
use Rattle.program_frame.specs.Laws.CommandLines.{told_end}
use Rattle.program_frame.specs.declared.ending.Ending.{Ending}
use Rattle.program_frame.specs.declared.ending.Ending.TheVariants as ending
use Rattle.program_frame.specs.declared.ending.Failure.{Failure}
use Rattle.live_program.specs.Asked.{IsAskedIn, IsWhyNotRead}
use Rattle.live_program.specs.Closings.{answer_files_of, closed_log_file, file_of_bytes, AreEndFiles, IsDayPlaced, IsOldOrDay}
use Rattle.open_day.specs.OpenDay.{closed_log, log_name}
use Rattle.live_program.specs.declared.closing.DayEnd.{DayEnd}
use Rattle.live_program.specs.Sayings.{HasToldFound, IsFoundText, IsSaidOf}
use Rattle.live_program.specs.Heads.{IsBehindHead}
use Rattle.live_program.specs.Lives.{end_of_day, EndsDay, GoesOn, IsFound, IsLeftNow, IsLife, IsNeverLost, IsOpenOrClosed, IsLifeOver, IsOpenStill, IsUnbegunDay, IsUnlived}
use Rattle.live_program.specs.declared.failure.LiveFailure.{LiveFailure}
use Rattle.live_program.specs.declared.lived.Lived.{Lived}
use Rattle.live_program.specs.declared.options.Options.{Options}

-- ---- names

-- the log has no reserved name
other_reserved : (n : Name) → is_reserved n ≡ true → n ≢ log_name
other_reserved n reserved is = free_other log_name n refl reserved (sym is)

-- folders without files of reserved names that have the same elsewhere, but for the log
pub same_but_log : (old new : Folder) → IsClean old → IsClean new → ((n : Name) → is_reserved n ≡ false → n ≢ log_name → new n ≡ old n) → SameBut log_name old new
same_but_log old new clean clean_now same n other = elim (cases_Bool (is_reserved n)) [
  | inl reserved ↦ clean_now n reserved ∙ sym (clean n reserved)
  | inr free ↦ same n free other
]

pub clean_but_log : (old new : Folder) → SameBut log_name old new → IsClean old → IsClean new
clean_but_log old new same clean n reserved = same n (other_reserved n reserved) ∙ clean n reserved

ascii_each : (bs : List ℕ) → AllByRecursion (λ b. b < 128) bs → IsAscii bs
ascii_each [] each i = lit< tt
ascii_each (b ∷ bs) each zero = each.0
ascii_each (b ∷ bs) each (suc i) = ascii_each bs each.1 i

ascii_log : AllByRecursion (λ b. b < 128) log_name
ascii_log = (lit< tt, (lit< tt, (lit< tt, (lit< tt, (lit< tt, (lit< tt, (lit< tt, (lit< tt, (lit< tt, (lit< tt, (lit< tt, (lit< tt, tt))))))))))))

-- a set of files may have the log
pub log_fits : is_file_name log_name ≡ true
log_fits = is_utf8-from_IsUtf8 log_name (IsUtf8-from_ascii log_name (ascii_each log_name ascii_log))

-- ---- the day's files

-- a file that is last of all is found, or another of its name before it
last_covers : (files : List NamedFile) (name bytes : List ℕ) (x y : Option (List ℕ)) → first_of (file_at (files ++ file_of_bytes name bytes) name) x ≡ first_of (file_at (files ++ file_of_bytes name bytes) name) y
last_covers [] name bytes x y = let own : bytes_eq name name ≡ true = (bytes_eq-Decides name name).1 refl in rw own refl
last_covers (file ∷ files) name bytes x y = elim (cases_Bool (bytes_eq file.name name)) [
  | inl at ↦ rw at refl
  | inr not_at ↦ rw not_at (last_covers files name bytes x y)
]

-- the log is one of the day's files
log_covered : (h : History) (end : DayEnd) (files : List NamedFile) → AreEndFiles h end files → (x y : Option (List ℕ)) → first_of (file_at files log_name) x ≡ first_of (file_at files log_name) y
log_covered h end files (inl none) x y =
    subst (λ (fs : List NamedFile). first_of (file_at fs log_name) x ≡ first_of (file_at fs log_name) y) (sym none.1) (last_covers [] log_name (closed_log end.earlier) x y)
log_covered h end files (inr some) x y =
    let day = some.1 in
    let count : ℕ = length h.journal in
    let dated : List NamedFile = dated_files end.today day.tables in
    let answered : List NamedFile = answer_files_of h.opened.stations h.journal in
    let is : files ≡ (dated ++ answered) ++ closed_log_file count = day.files_are ∙ sym (append_assoc dated answered (closed_log_file count)) in
    subst (λ (fs : List NamedFile). first_of (file_at fs log_name) x ≡ first_of (file_at fs log_name) y) (sym is) (last_covers (dated ++ answered) log_name (closed_log count) x y)

-- so they stand in the same way in folders that differ in the log alone
with_day_files : (h : History) (end : DayEnd) (files : List NamedFile) (old new : Folder) → AreEndFiles h end files → SameBut log_name old new → (n : Name) → with_files files new n ≡ with_files files old n
with_day_files h end files old new day same n = elim (same_name n log_name) [
  | inl is ↦ subst (λ (x : Name). with_files files new x ≡ with_files files old x) (sym is) (log_covered h end files day (new log_name) (old log_name))
  | inr other ↦ ap (λ (o : Option (List ℕ)). if is_reserved n then None else first_of (file_at files n) o) (same n other)
]

pub placed_on : (h : History) (end : DayEnd) (old now new : Folder) → SameBut log_name old now → IsDayPlaced h end now new → IsDayPlaced h end old new
placed_on h end old now new same placed = record {
  files = placed.files;
  such = placed.such;
  placed = λ n. placed.placed n ∙ with_day_files h end placed.files old now placed.such same n;
}

-- ---- what is left of a folder

-- what stands for one of these folders stands for the other
pub either_on : (head : List ℕ) (least : ℕ) (last : History) (end : DayEnd) (old now left : Folder) → SameBut log_name old now → IsOpenOrClosed head least last end now left → IsOpenOrClosed head least last end old left
either_on head least last end old now left same (inl has) = inl (record { kept = has.kept; elsewhere = λ n other. has.elsewhere n other ∙ same n other })
either_on head least last end old now left same (inr closed) =
    inr (closed.0, closed.1, λ n. closed.2 n ∙ with_day_files last end closed.0 old now closed.1 same n)

-- a log in a folder without files of reserved names is what recovery leaves
pub front_recovered : (name : Name) (head : List ℕ) (least : ℕ) (journal : List LineParts) (old now left : Folder) → name ≡ log_name → IsClean now → SameBut log_name old now → HasFrontIn name head least journal now left
    → HasFrontIn log_name head least journal old (recovered left)
front_recovered name head least journal old now left is clean same has =
    let here : HasFrontIn log_name head least journal now left = subst (λ (n : Name). HasFrontIn n head least journal now left) is has in
    let no_list : left list_name ≡ None = here.elsewhere list_name (other_reserved list_name refl) ∙ clean list_name refl in
    let finished : IsFinished left = unlisted_finished left no_list in
    record {
      kept = record {
        log = here.kept.log;
        there = finished log_name refl ∙ here.kept.there;
        front = here.kept.front;
        rest = here.kept.rest;
        order = here.kept.order;
        stands = here.kept.stands;
        enough = here.kept.enough;
      };
      elsewhere = λ n other. elim (cases_Bool (is_reserved n)) [
        | inl reserved ↦ recovered_reserved left n reserved ∙ (sym (clean n reserved) ∙ same n other)
        | inr free ↦ finished n free ∙ (here.elsewhere n other ∙ same n other)
      ];
    }

-- the old files, their log among them
old_open : (head : List ℕ) (least : ℕ) (last : History) (old now left : Folder) → least ≤ length last.journal → HasLog log_name head (parts_of last.journal) now → IsClean now → SameBut log_name old now → HasOldFiles now left
    → IsOpenStill head least last old left
old_open head least last old now left enough has clean same kept = record {
  kept = record {
    log = log_of (parts_of last.journal);
    there = kept.recovers log_name ∙ (without_free now log_name refl ∙ has.there);
    front = parts_of last.journal;
    rest = [];
    order = sym (append-nil (parts_of last.journal));
    stands = after_shut (parts_of last.journal) [] has.small;
    enough = omega (arith, enough, length-map last.journal line_parts);
  };
  elsewhere = λ n other. elim (cases_Bool (is_reserved n)) [
    | inl reserved ↦ kept.recovers n ∙ (without_res now n reserved ∙ (sym (clean n reserved) ∙ same n other))
    | inr free ↦ kept.recovers n ∙ (without_free now n free ∙ same n other)
  ];
}

-- a day that is being closed
closing_left : (head : List ℕ) (least : ℕ) (last : History) (end : DayEnd) (old now left : Folder) → least ≤ length last.journal → HasLog log_name head (parts_of last.journal) now → IsClean now → SameBut log_name old now
    → IsOldOrDay last end now left → IsOpenOrClosed head least last end old left
closing_left head least last end old now left enough has clean same (inl kept) = inl (old_open head least last old now left enough has clean same kept)
closing_left head least last end old now left enough has clean same (inr files) =
    inr (files.0, files.1, λ n. files.2 n ∙ with_day_files last end files.0 old now files.1 same n)

-- a day that begins: its log takes the place of the one that was found
pub beginning_left : (head : List ℕ) (first last : History) (old found left : Folder) → HaveSmallNumbers (parts_of first.journal) → HasGoneOn first last → IsClean found → ((n : Name) → old n ≡ found n)
    → IsOldOrPlacedWith log_name (head ++ log_of (parts_of first.journal)) [] old left → RecoversTo found left ⊎ IsOpenStill head (length first.journal) last found left
beginning_left head first last old found left small on clean same (inl kept) = inl (λ n. elim (cases_Bool (is_reserved n)) [
  | inl reserved ↦ recovered_reserved left n reserved ∙ sym (clean n reserved)
  | inr free ↦ kept n free ∙ same n
])
beginning_left head first last old found left small on clean same (inr placed) = inr (record {
  kept = record {
    log = log_of (parts_of first.journal);
    there = placed.file;
    front = parts_of first.journal;
    rest = parts_of on.more;
    order = ap parts_of on.journal ∙ map-append line_parts first.journal on.more;
    stands = after_shut (parts_of first.journal) [] small;
    enough = omega (arith, length-map first.journal line_parts);
  };
  elsewhere = λ n other. elim (cases_Bool (is_reserved n)) [
    | inl reserved ↦ recovered_reserved left n reserved ∙ sym (clean n reserved)
    | inr free ↦ placed.others n free other ∙ (rw free refl ∙ same n)
  ];
})

-- ---- results

pub ok_by : {T E : Type 0} (r : Result T E) (P Q : T → Type 0) → ((t : T) → P t → Q t) → IfOk r P → IfOk r Q
ok_by (Ok t) P Q by is = by t is
ok_by (Err e) P Q by is = tt

pub ok_both : {T E : Type 0} (r : Result T E) (P Q R : T → Type 0) → ((t : T) → P t → Q t → R t) → IfOk r P → IfOk r Q → IfOk r R
ok_both (Ok t) P Q R by is and = by t is and
ok_both (Err e) P Q R by is and = tt

-- what holds at each result, or at no Ok
pub ok_always : {T E : Type 0} (r : Result T E) (P : Type 0) → P → OnOk r P
ok_always (Ok t) P is = is
ok_always (Err e) P is = tt

pub ok_never : {T E : Type 0} (r : Result T E) (P : Type 0) → IsErr r → OnOk r P
ok_never (Ok t) P failed = absurd cc
ok_never (Err e) P failed = tt

pub err_by : {T E : Type 0} (r : Result T E) (P Q : E → Type 0) → ((e : E) → P e → Q e) → IfErr r P → IfErr r Q
err_by (Ok t) P Q by is = tt
err_by (Err e) P Q by is = by e is

none_more : (h : History) → HasGoneOn h h
none_more h = record { opened = refl; more = []; journal = sym (append-nil h.journal) }

module _ {D : Type 0} (m : DiskMeaning D) where
  -- ---- before a day begins

  -- what a crash leaves of a disk whose files are all on it are these
  pub synced_left : (disk : D) (left : Folder) → IsSyncedDisk m disk → IsClean (m.seen disk) → m.may_leave disk left → SameFree (m.seen disk) (recovered left)
  synced_left disk left synced clean may n free =
      let kept : HasOldFiles (m.seen disk) left = uncommitted_old (m.seen disk) (m.may_leave disk) (clean_uncommitted (m.seen disk) (m.is_whole disk) (m.may_leave disk) clean synced) left may in
      kept.recovers n ∙ without_free (m.seen disk) n free

  -- the log has got its place, as it is told with other words
  pub placed_as : (disk begun now : D) (name log text : List ℕ) → begun ≡ disk → name ≡ log_name → log ≡ text → LeavesOnly m begun now (IsOldOrPlacedWith name log [] (m.seen begun))
      → LeavesOnly m disk now (IsOldOrPlacedWith log_name text [] (m.seen disk))
  placed_as disk begun now name log text same is text_is leaves =
      subst (λ (d : D). LeavesOnly m d now (IsOldOrPlacedWith log_name text [] (m.seen d))) same
      (subst (λ (n : Name). LeavesOnly m begun now (IsOldOrPlacedWith n text [] (m.seen begun))) is
      (subst (λ (l : List ℕ). LeavesOnly m begun now (IsOldOrPlacedWith name l [] (m.seen begun))) text_is leaves))

  -- the log was performed once more, and then one of the same entries was put in its place
  pub begun_leaves : (start mid now : D) (log : List ℕ) → IsSyncedDisk m start → IsClean (m.seen start) → m.seen mid ≡ m.seen start → LeavesOnly m start mid (m.may_leave start)
      → LeavesOnly m mid now (IsOldOrPlacedWith log_name log [] (m.seen mid)) → LeavesOnly m start now (IsOldOrPlacedWith log_name log [] (m.seen start))
  begun_leaves start mid now log synced clean same first second =
      leaves_on m start mid now (m.may_leave start) (IsOldOrPlacedWith log_name log [] (m.seen mid)) (IsOldOrPlacedWith log_name log [] (m.seen start)) first second
      (λ left may. inl (synced_left start left synced clean may))
      (λ left either. subst (λ (folder : Folder). IsOldOrPlacedWith log_name log [] folder left) same either)

  -- a call that changes no file
  pub read_leaves : (old new : D) → OnlyReads m old new → LeavesOnly m old new (m.may_leave old)
  read_leaves old new reads = leaves_less m old old new (leaves_same m old) (λ left may. may) reads

  -- ---- the lines of a day

  module _ (promised : m.keeps_promises) (begun day : DayValue D) (end : DayEnd) (shown shown_then : List ShownLine) (kept : KeepsShown m begun day shown shown_then)
      (is : begun.log.name ≡ log_name) (clean : IsClean (m.seen begun.log.disk)) (legal : IsLegal day.history.opened day.history.journal)
      (of_stations : AreOfStations day.history.opened day.history.journal) where
    same_since : SameBut log_name (m.seen begun.log.disk) (m.seen day.log.disk)
    same_since n other = kept.after.others n (λ at. other (at ∙ is))

    name_still : day.log.name ≡ log_name
    name_still = kept.after.name ∙ is

    clean_since : IsClean (m.seen day.log.disk)
    clean_since = clean_but_log (m.seen begun.log.disk) (m.seen day.log.disk) same_since clean

    run_leaves : LeavesOnly m begun.log.disk day.log.disk (λ left. ⊥ ⊎ IsOpenOrClosed begun.log.head (length begun.history.journal) day.history end (m.seen begun.log.disk) left)
    run_leaves = leaves_as m begun.log.disk day.log.disk _ _ (kept.after.moments promised)
        (λ left has. inr (inl (front_recovered begun.log.name begun.log.head (length begun.history.journal) (parts_of day.history.journal) (m.seen begun.log.disk) (m.seen begun.log.disk) left is clean (λ n other. refl) has)))

    shown_left : (s : ShownLine) → IsKeptLine m day s → (left : Folder) → m.left_since day.log.disk s.moment left → IsOpenOrClosed begun.log.head s.count day.history end (m.seen begun.log.disk) left
    shown_left s line left since =
        inl (front_recovered day.log.name begun.log.head s.count (parts_of day.history.journal) (m.seen begun.log.disk) (m.seen day.log.disk) left name_still clean_since same_since
        (subst (λ (h : List ℕ). HasFrontIn day.log.name h s.count (parts_of day.history.journal) (m.seen day.log.disk) left) kept.after.head (line.kept promised left since)))

    -- the day was stopped
    pub stopped_day : GoesOn m (λ left. ⊥) begun.log.head (m.seen begun.log.disk) begun.history day.history end shown shown_then begun.log.disk day.log.disk
    stopped_day = record {
      journal = kept.after.history;
      legal = legal;
      of_stations = of_stations;
      lines = kept.lines;
      more = kept.more;
      each = each_by (IsKeptLine m day) (IsNeverLost m begun.log.head (m.seen begun.log.disk) day.history end day.log.disk) kept.lines
          (λ s line. record { told = line.told; among = line.among; kept = shown_left s line }) kept.each;
      moments = run_leaves;
    }

    -- and its log stands
    pub left_stopped : (least : ℕ) → HasLogOf m day least → IsLeftNow m (λ left. ⊥) begun.log.head (m.seen begun.log.disk) begun.history day.history end day.log.disk least
    left_stopped least has left may =
        inl (inl (front_recovered day.log.name begun.log.head least (parts_of day.history.journal) (m.seen begun.log.disk) (m.seen day.log.disk) left name_still clean_since same_since
        (subst (λ (h : List ℕ). HasFrontIn day.log.name h least (parts_of day.history.journal) (m.seen day.log.disk) left) kept.after.head (has promised left may))))

    module _ (now : D) (logged : IsLogged m day) (closing : LeavesOnly m day.log.disk now (IsOldOrDay day.history end (m.seen day.log.disk))) where
      has_log : HasLog log_name begun.log.head (parts_of day.history.journal) (m.seen day.log.disk)
      has_log =
          subst (λ (n : Name). HasLog n begun.log.head (parts_of day.history.journal) (m.seen day.log.disk)) name_still
          (subst (λ (h : List ℕ). HasLog day.log.name h (parts_of day.history.journal) (m.seen day.log.disk)) kept.after.head logged)

      closing_open : (least : ℕ) (left : Folder) → least ≤ length day.history.journal → IsOldOrDay day.history end (m.seen day.log.disk) left → IsOpenOrClosed begun.log.head least day.history end (m.seen begun.log.disk) left
      closing_open least left enough either = closing_left begun.log.head least day.history end (m.seen begun.log.disk) (m.seen day.log.disk) left enough has_log clean_since same_since either

      longer : length begun.history.journal ≤ length day.history.journal
      longer = omega (arith, ap length kept.after.history.journal, length-append begun.history.journal kept.after.history.more)

      -- the day was closed, or could not be
      pub closed_day : GoesOn m (λ left. ⊥) begun.log.head (m.seen begun.log.disk) begun.history day.history end shown shown_then begun.log.disk now
      closed_day = record {
        journal = kept.after.history;
        legal = legal;
        of_stations = of_stations;
        lines = kept.lines;
        more = kept.more;
        each = each_by (IsKeptLine m day) (IsNeverLost m begun.log.head (m.seen begun.log.disk) day.history end now) kept.lines
            (λ s line. record {
              told = line.told;
              among = line.among;
              kept = λ left since. ⊎_elim (shown_left s line left) (closing_open s.count left line.among) (closing.before s.moment left (line.past promised) since);
            }) kept.each;
        moments = leaves_on m begun.log.disk day.log.disk now _ _ _ run_leaves closing (λ left either. either)
            (λ left either. inr (closing_open (length begun.history.journal) left longer either));
      }

      -- all entries are left then
      pub left_closing : IsLeftNow m (λ left. ⊥) begun.log.head (m.seen begun.log.disk) begun.history day.history end now (length day.history.journal)
      left_closing left may =
          inl (closing_open (length day.history.journal) left (omega arith) (closing.each left (m.counts_now now (m.moment day.log.disk) left closing.later may)))

      pub placed_day : IsDayPlaced day.history end (m.seen day.log.disk) (m.seen now) → IsDayPlaced day.history end (m.seen begun.log.disk) (m.seen now)
      placed_day placed = placed_on day.history end (m.seen begun.log.disk) (m.seen day.log.disk) (m.seen now) same_since placed

-- what was typed was obeyed, and the day was closed, or could not be
pub day_ends : {D : Type 0} (m : DiskMeaning D) (ended : Type 0) (typed typed_then : List Typed) (before : Folder → Type 0) (head : List ℕ) (found : Folder) (first last : History) (end : DayEnd) (shown shown_then : List ShownLine) (start now : D)
    (how : Result Lived (Failure LiveFailure)) → IsDayRun ended typed typed_then first last shown shown_then → GoesOn m before head found first last end shown shown_then start now
    → IsLeftNow m before head found first last end now (length last.journal) → (P : Type 0) → (P → IsDayPlaced last end found (m.seen now)) → OnOk how P → IfOk how (λ lived. lived.count ≡ length last.journal)
    → EndsDay m ended typed typed_then before head found first end shown shown_then start now how
day_ends m ended typed typed_then before head found first last end shown shown_then start now (Ok lived) run on left P by placed count = record { last = last; goes_on = on; run = run; placed = by placed; count = count }
day_ends m ended typed typed_then before head found first last end shown shown_then start now (Err why) run on left P by placed count = record {
  last = last;
  goes_on = on;
  run = stopped_all (IsLeftNow m before head found first last end now) typed run.typed_before typed_then run.end first last shown shown_then run.station run.obeyed run.read left;
}

-- or it was stopped
pub stopped_ends : {D : Type 0} (m : DiskMeaning D) (ended : Type 0) (typed typed_then : List Typed) (before : Folder → Type 0) (head : List ℕ) (found : Folder) (first last : History) (end : DayEnd) (shown shown_then : List ShownLine) (start now : D)
    (how : Result Lived (Failure LiveFailure)) → IsErr how → GoesOn m before head found first last end shown shown_then start now
    → IsDayStopped (IsLeftNow m before head found first last end now) typed typed_then first last shown shown_then → EndsDay m ended typed typed_then before head found first end shown shown_then start now how
stopped_ends m ended typed typed_then before head found first last end shown shown_then start now (Ok lived) failed on run = absurd cc
stopped_ends m ended typed typed_then before head found first last end shown shown_then start now (Err why) failed on run = record { last = last; goes_on = on; run = run }

-- ---- since the folder was recovered

module _ {D : Type 0} (m : DiskMeaning D) (promised : m.keeps_promises) (start disk : D) (recovery : IsRecovered m start disk) where
  none_reserved : IsClean (recovered (m.seen start))
  none_reserved n reserved = recovered_reserved (m.seen start) n reserved

  as_found : (left : Folder) → RecoversTo (recovered (m.seen start)) left → RecoversAsOneOf (m.may_leave start) left
  as_found left to = (m.seen start, m.seen_may_stay start promised, to)

  still_found : (left : Folder) → SameFree (m.seen disk) (recovered left) → RecoversAsOneOf (m.may_leave start) left
  still_found left same = as_found left (λ n. elim (cases_Bool (is_reserved n)) [
    | inl reserved ↦ recovered_reserved left n reserved ∙ sym (none_reserved n reserved)
    | inr free ↦ same n free ∙ recovery.same n
  ])

  found_since : (files : Option (List NamedFile)) (options : Options) (head : List ℕ) (first : History) (earlier : ℕ) → IsFound files options (m.seen disk) head first earlier
      → IsFound files options (recovered (m.seen start)) head first earlier
  found_since files options head first earlier found = record {
    opened = found.opened;
    read = found.read;
    known = found.known;
    head_is = found.head_is;
    body = found.body;
    behind = subst (λ (o : Option (List ℕ)). IsBehindHead found.read options.reindex (or_empty_log o) earlier found.body) (recovery.same log_name) found.behind;
    log = found.log;
    legal = found.legal;
    of_stations = found.of_stations;
  }

  found_text_since : (files : Option (List NamedFile)) (options : Options) (old now : Option (List ℕ)) → IsSaidOf (IsFoundText files options (m.seen disk)) old now
      → IsSaidOf (IsFoundText files options (recovered (m.seen start))) old now
  found_text_since files options old now (inl none) = inl none
  found_text_since files options old now (inr said) =
      let is = said.1 in
      inr (said.0, (is.0, is.1, is.2, found_since files options is.0 is.1 is.2 is.3, is.4), said.2)

  -- what was said of it is said of the folder that recovery makes
  pub told_since : (files : Option (List NamedFile)) (options : Options) (old now : Option (List ℕ)) → HasToldFound files options (m.seen disk) old now
      → HasToldFound files options (recovered (m.seen start)) old now
  told_since files options old now told = record {
    between = told.between;
    kept_files = told.kept_files;
    found = found_text_since files options told.between now told.found;
  }

  -- up to the moment when the log that was found has its place
  beginning_leaves : (files : Option (List NamedFile)) (options : Options) (head : List ℕ) (first last : History) (earlier : ℕ) (end : DayEnd) (now : D) → IsFound files options (m.seen disk) head first earlier → HasGoneOn first last → LeavesOnly m disk now (IsOldOrPlacedWith log_name (head ++ log_of (parts_of first.journal)) [] (m.seen disk))
      → LeavesOnly m start now (λ left. RecoversAsOneOf (m.may_leave start) left ⊎ IsOpenOrClosed head (length first.journal) last end (recovered (m.seen start)) left)
  beginning_leaves files options head first last earlier end now found on leaves =
      leaves_on m start disk now (AfterStep StillRecovers (m.may_leave start)) (IsOldOrPlacedWith log_name (head ++ log_of (parts_of first.journal)) [] (m.seen disk)) _ recovery.moments leaves
      (λ left from. inl (from.0, from.1, from.2.recovers))
      (λ left either. ⊎_elim (λ (to : RecoversTo (recovered (m.seen start)) left). inl (as_found left to)) (λ (open_still : IsOpenStill head (length first.journal) last (recovered (m.seen start)) left). inr (inl open_still))
      (beginning_left head first last (m.seen disk) (recovered (m.seen start)) left found.log.small on none_reserved recovery.same either))

  -- no day has begun
  pub unbegun_life : (ended : Type 0) (typed : List Typed) (files : Option (List NamedFile)) (options : Options) (shown : List ShownLine) (now : D) (how : Result Lived (Failure LiveFailure)) → IsErr how → IsUnbegunDay m files options disk now
      → IsLife m ended typed typed files options shown shown start now how
  unbegun_life ended typed files options shown now (Ok lived) failed stops = absurd cc
  unbegun_life ended typed files options shown now (Err why) failed (inl leaves) = inl (record {
    unshown = refl;
    moments = leaves_on m start disk now (AfterStep StillRecovers (m.may_leave start)) (λ left. SameFree (m.seen disk) (recovered left)) (RecoversAsOneOf (m.may_leave start)) recovery.moments leaves
        (λ left from. (from.0, from.1, from.2.recovers)) still_found;
  })
  unbegun_life ended typed files options shown now (Err why) failed (inr stops) =
      let head : List ℕ = stops.0 in
      let first : History = stops.1 in
      let earlier : ℕ = stops.2 in
      let found = stops.3 in
      let end : DayEnd = end_of_day options.today earlier in
      let moments = beginning_leaves files options head first first earlier end now found (none_more first) stops.4 in
      inr (record {
        head = head;
        first = first;
        earlier = earlier;
        found = found_since files options head first earlier found;
        ends = record {
          last = first;
          goes_on = record {
            journal = none_more first;
            legal = found.legal;
            of_stations = found.of_stations;
            lines = [];
            more = sym (append-nil shown);
            each = tt;
            moments = moments;
          };
          run = stopped_all (IsLeftNow m (RecoversAsOneOf (m.may_leave start)) head (recovered (m.seen start)) first first end now) typed typed typed [] first first shown shown 1
              (obeyed_none typed first shown) (sym (append-nil typed))
              (λ left may. ⊎_elim (λ (before : RecoversAsOneOf (m.may_leave start) left). inr (refl, before))
              (λ (open_or : IsOpenOrClosed head (length first.journal) first end (recovered (m.seen start)) left). inl open_or)
              (moments.each left (m.counts_now now (m.moment start) left moments.later may)));
        };
      })

  module _ (files : Option (List NamedFile)) (options : Options) (begun : DayValue D) (earlier : ℕ) (found : IsFound files options (m.seen disk) begun.log.head begun.history earlier) (clean : IsClean (m.seen begun.log.disk))
      (others : (n : Name) → is_reserved n ≡ false → n ≢ log_name → m.seen begun.log.disk n ≡ m.seen disk n)
      (leaves : LeavesOnly m disk begun.log.disk (IsOldOrPlacedWith log_name (begun.log.head ++ log_of (parts_of begun.history.journal)) [] (m.seen disk))) where
    begun_same : SameBut log_name (recovered (m.seen start)) (m.seen begun.log.disk)
    begun_same = same_but_log (recovered (m.seen start)) (m.seen begun.log.disk) none_reserved clean (λ n free other. others n free other ∙ recovery.same n)

    life_on : (last : History) (end : DayEnd) (shown shown_then : List ShownLine) (now : D) → GoesOn m (λ left. ⊥) begun.log.head (m.seen begun.log.disk) begun.history last end shown shown_then begun.log.disk now
        → GoesOn m (RecoversAsOneOf (m.may_leave start)) begun.log.head (recovered (m.seen start)) begun.history last end shown shown_then start now
    life_on last end shown shown_then now on = record {
      journal = on.journal;
      legal = on.legal;
      of_stations = on.of_stations;
      lines = on.lines;
      more = on.more;
      each = each_by (IsNeverLost m begun.log.head (m.seen begun.log.disk) last end now) (IsNeverLost m begun.log.head (recovered (m.seen start)) last end now) on.lines
          (λ s line. record {
            told = line.told;
            among = line.among;
            kept = λ left since. either_on begun.log.head s.count last end (recovered (m.seen start)) (m.seen begun.log.disk) left begun_same (line.kept left since);
          }) on.each;
      moments = leaves_on m start begun.log.disk now _ _ _ (beginning_leaves files options begun.log.head begun.history last earlier end begun.log.disk found on.journal leaves) on.moments (λ left either. either)
          (λ left either. ⊎_elim (λ (none : ⊥). absurd none)
          (λ (open_or : IsOpenOrClosed begun.log.head (length begun.history.journal) last end (m.seen begun.log.disk) left).
          inr (either_on begun.log.head (length begun.history.journal) last end (recovered (m.seen start)) (m.seen begun.log.disk) left begun_same open_or)) either);
    }

    -- a day that had begun ended so
    pub begun_life : (ended : Type 0) (typed typed_then : List Typed) (shown shown_then : List ShownLine) (now : D) (how : Result Lived (Failure LiveFailure))
        → EndsDay m ended typed typed_then (λ left. ⊥) begun.log.head (m.seen begun.log.disk) begun.history (end_of_day options.today earlier) shown shown_then begun.log.disk now how → IsLife m ended typed typed_then files options shown shown_then start now how
    begun_life ended typed typed_then shown shown_then now (Ok lived) ends = record {
      head = begun.log.head;
      first = begun.history;
      earlier = earlier;
      found = found_since files options begun.log.head begun.history earlier found;
      ends = record {
        last = ends.last;
        goes_on = life_on ends.last (end_of_day options.today earlier) shown shown_then now ends.goes_on;
        run = ends.run;
        placed = placed_on ends.last (end_of_day options.today earlier) (recovered (m.seen start)) (m.seen begun.log.disk) (m.seen now) begun_same ends.placed;
        count = ends.count;
      };
    }
    begun_life ended typed typed_then shown shown_then now (Err why) ends =
        let end : DayEnd = end_of_day options.today earlier in
        inr (record {
          head = begun.log.head;
          first = begun.history;
          earlier = earlier;
          found = found_since files options begun.log.head begun.history earlier found;
          ends = record {
            last = ends.last;
            goes_on = life_on ends.last end shown shown_then now ends.goes_on;
            run = stopped_by (IsLeftNow m (λ left. ⊥) begun.log.head (m.seen begun.log.disk) begun.history ends.last end now)
                (IsLeftNow m (RecoversAsOneOf (m.may_leave start)) begun.log.head (recovered (m.seen start)) begun.history ends.last end now)
                (λ least is left may. ⊎_elim
                (λ (open_or : IsOpenOrClosed begun.log.head least ends.last end (m.seen begun.log.disk) left).
                inl (either_on begun.log.head least ends.last end (recovered (m.seen start)) (m.seen begun.log.disk) left begun_same open_or))
                (λ none. absurd none.1) (is left may)) typed typed_then begun.history ends.last shown shown_then ends.run;
          };
        })

-- a folder that could not be recovered
pub unrecovered_life : {D : Type 0} (m : DiskMeaning D) (ended : Type 0) (typed typed_then : List Typed) (files : Option (List NamedFile)) (options : Options) (shown : List ShownLine) (start now : D) (how : Result Lived (Failure LiveFailure)) → IsErr how
    → LeavesOnly m start now (RecoversAsOneOf (m.may_leave start)) → IsLife m ended typed typed_then files options shown shown start now how
unrecovered_life m ended typed typed_then files options shown start now (Ok lived) failed leaves = absurd cc
unrecovered_life m ended typed typed_then files options shown start now (Err why) failed leaves = inl (record { unshown = refl; moments = leaves })

-- ---- what the words ask for

pub life_over : {D : Type 0} (m : DiskMeaning D) (is_opened : D → Type 0) (ended : Type 0) (typed typed_then : List Typed) (files : Option (List NamedFile)) (options : Options) (shown shown_then : List ShownLine) (start now : D) (how : Result Lived (Failure LiveFailure))
    → is_opened start → (m.keeps_promises → IsLife m ended typed typed_then files options shown shown_then start now how) → IsLifeOver m is_opened ended typed typed_then files options shown shown_then how
life_over m is_opened ended typed typed_then files options shown shown_then start now (Ok lived) opened life = record { start = start; now = now; opened = opened; life = life }
life_over m is_opened ended typed typed_then files options shown shown_then start now (Err why) opened life = inr (record { start = start; now = now; opened = opened; life = life })

-- the words were not read
pub unread_unlived : {D T : Type 0} (m : DiskMeaning D) (opens : List ℕ → D → Type 0) (files : Option (List NamedFile)) (words : List Text) (ended : Type 0) (typed typed_then : List Typed) (shown : List ShownLine)
    (told : Result T (Ending (Failure LiveFailure))) (why : Ending (Failure LiveFailure)) → IsErrAnd told (λ e. e ≡ why) → IsWhyNotRead words why → IfErr told (IsUnlived m opens files words ended typed typed_then shown shown)
unread_unlived m opens files words ended typed typed_then shown told ending.NoText is h = absurd h
unread_unlived m opens files words ended typed typed_then shown told (ending.CommandLine error) is h =
    told_end (IsUnlived m opens files words ended typed typed_then shown shown) told (ending.CommandLine error) is (refl, h)
unread_unlived m opens files words ended typed typed_then shown told (ending.Failed why) is h =
    told_end (IsUnlived m opens files words ended typed typed_then shown shown) told (ending.Failed why) is (inl refl)

-- the life failed
pub failed_unlived : {D T : Type 0} (m : DiskMeaning D) (opens : List ℕ → D → Type 0) (files : Option (List NamedFile)) (words : List Text) (ended : Type 0) (typed typed_then : List Typed) (shown shown_then : List ShownLine)
    (told : Result T (Ending (Failure LiveFailure))) (options : Options) (why : Failure LiveFailure) → IsErrAnd told (λ e. e ≡ ending.Failed why) → IsAskedIn words options
    → IsLifeOver m (opens options.out.now) ended typed typed_then files options shown shown_then (Err why) → IfErr told (IsUnlived m opens files words ended typed typed_then shown shown_then)
failed_unlived m opens files words ended typed typed_then shown shown_then told options why is asked life =
    told_end (IsUnlived m opens files words ended typed typed_then shown shown_then) told (ending.Failed why) is (inr (record { options = options; asked = asked; life = life }))
