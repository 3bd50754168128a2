-- The journal of a run: its commands are those of the scripts' lines.
use Rattle.std.proofs.Common.{◌≡◌, ℕ, ◌+◌, ◌-◌, ◌<◌, ◌≤◌, Bool, true, false, cond, List, [], ◌∷◌, Option, Some, None, map, refl, sym, ap, ◌∙◌, subst, inl, inr, arith, eq-eqb}
use Rattle.std.specs.Prelude.{◌==◌, ◌&&◌, bytes_eq, filter}
use Rattle.std.specs.List.{AllByRecursion}
use Rattle.std.proofs.lemmas.Bool.{false≢true}
use Rattle.std.proofs.lemmas.Slice.Eq.{bytes_eq-Decides}
use Rattle.catalogue_core.specs.declared.entry.Entry.{Entry}
use Rattle.catalogue_core.specs.Replay.{Opened, AreOfStations}
use Rattle.dbf_fields.specs.declared.day.Day.{Day}
use Rattle.journal_file.specs.declared.sum.FileSum.{FileSum}
use Rattle.journal_file.specs.WholeText.{whole_text, CanBeTold, IsNotWhole, WholeJournal}
use Rattle.journal_file.proofs.TextLaws.{whole_one}
use Rattle.shared_catalogue.specs.declared.receipt.Receipt.{Receipt}
use Rattle.shared_catalogue.specs.OwnCalls.{receipt_of, of_station}
use Rattle.station_lines.specs.CommandLines.{IsOfALine}
use Rattle.station_lines.specs.JournalLines.{journal_text, lines_and}
use Rattle.station_lines.specs.Script.Lines.{AreLines}
use Rattle.office_run.specs.declared.closed.ClosedTable.{ClosedTable}
use Rattle.folders.specs.declared.named.NamedFile.{NamedFile}
use Rattle.office_run.specs.Closing.{run_files}
use Rattle.folders.specs.Files.{IsFileOf}
use Rattle.office_run.specs.Reports.{Shown, answered, status, AreShown, receipts_of, AreReports}
use Rattle.audit.specs.declared.fault.AuditFault.{AuditFault}
use Rattle.audit.specs.declared.fault.AuditFault.TheVariants.{NoEntry, Differs, TooLong, NoMemory}
use Rattle.audit.specs.Audits.{AreOfLines, IsJournalOf, RefutesAll}
use Rattle.office_run.specs.declared.counts.CommandCounts.{CommandCounts}
use Rattle.office_run.specs.JournalFile.{told_run, IsJournalText}
use Rattle.office_run.specs.OpenedSetup.{IsOpenedBy, HaveStill}
use Rattle.office_run.specs.Served.{IsServed}
use Rattle.office_run.specs.WholeRun.{IsWholeRun}
use Rattle.office_run.proofs.NotedLaws.{notes_as_before}
use Rattle.office_run.proofs.OneOpening.{one_file, one_opening, opens_as_before}
use Rattle.audit_program.specs.declared.failure.AuditFailure.{AuditFailure}
use Rattle.audit_program.specs.declared.failure.AuditFailure.TheVariants.{Serve, Unread, UnrecoveredJournal, NoJournal, CutJournal, OtherReindex, OtherFile, Audit}
use Rattle.audit_program.specs.declared.options.Options.{Options}
use Rattle.audit_program.specs.Comparing.{first_other, same_content}
use Rattle.audit_program.specs.Laws.{IsRefutation}
use Rattle.audit_program.specs.Program.{IsFailedBy, IsNoJournalIn, IsOtherFile, IsOtherReindex, IsRefuted}

-- the command of the receipt is one that a line of a script means
abbrev IsOfLine : Receipt → Type 0
IsOfLine r = IsOfALine r.command

-- the commands among what is shown for a script's lines are those that the lines mean
shown_of_lines : (script : List ℕ) (lines : List (List ℕ)) (shown : List Shown) → AreLines lines script → AreShown lines shown → AllByRecursion IsOfLine (receipts_of shown)
shown_of_lines script [] [] cut h = tt
shown_of_lines script [] (x ∷ xs) cut h = absurd h
shown_of_lines script (line ∷ lines) [] cut h = tt
shown_of_lines script (line ∷ lines) (answered r ∷ xs) cut h =
    elim h [
      | inl blank ↦ shown_of_lines cut.0 lines (answered r ∷ xs) cut.2 blank.1
      | inr next ↦ ((line, cut.1.one_line, next.0), shown_of_lines cut.0 lines xs cut.2 next.1)
    ]
shown_of_lines script (line ∷ lines) (status row ∷ xs) cut h =
    elim h [ inl blank ↦ shown_of_lines cut.0 lines (status row ∷ xs) cut.2 blank.1 | inr next ↦ shown_of_lines cut.0 lines xs cut.2 next.1 ]

-- one entry, which is the station's or not
own_entry : (station : ℕ) (e : Entry) (own : List Entry) (mine : Bool) → (e.station == station) ≡ mine → AllByRecursion IsOfLine (map receipt_of (cond mine (e ∷ own) own))
    → (e.station ≡ station → IsOfALine e.command) × AllByRecursion IsOfLine (map receipt_of own)
own_entry station e own true is h = (λ same. h.0, h.1)
own_entry station e own false is h = (λ same. absurd (false≢true (sym is ∙ eq-eqb e.station station same)), h)

-- where a station's commands are of lines, its entries' are
own_of_lines : (station : ℕ) (journal : List Entry) → AllByRecursion IsOfLine (of_station journal station) → AllByRecursion (λ (e : Entry). e.station ≡ station → IsOfALine e.command) journal
own_of_lines station [] h = tt
own_of_lines station (e ∷ es) h =
    let both = own_entry station e (filter (λ (x : Entry). x.station == station) es) (e.station == station) refl h in
    (both.0, own_of_lines station es both.1)

-- each entry is of one of the stations
all_of_lines : (stations : ℕ) (journal : List Entry) → ((i : ℕ) → i < stations → AllByRecursion (λ (e : Entry). e.station ≡ i + 1 → IsOfALine e.command) journal)
    → AllByRecursion (λ (e : Entry). (1 ≤ e.station) × (e.station ≤ stations)) journal → AreOfLines journal
all_of_lines stations [] own of = tt
all_of_lines stations (e ∷ es) own of =
    let low : e.station - 1 < stations = omega (arith, of.0.0, of.0.1) in
    let at : e.station ≡ (e.station - 1) + 1 = omega (arith, of.0.0) in
    ((own (e.station - 1) low).0 at, all_of_lines stations es (λ i less. (own i less).1) of.1)

-- the commands of a run's journal are those of lines
of_lines : (opened : Opened) (journal : List Entry) (scripts answers : List (List ℕ)) → AreReports opened journal scripts answers → AreOfStations opened journal → AreOfLines journal
of_lines opened journal scripts answers reports of =
    all_of_lines opened.stations journal
    (λ i low.
    let report = (reports.each i low).4 in
    let lines = report.for_script in
    own_of_lines (i + 1) journal (subst (AllByRecursion IsOfLine) report.own (shown_of_lines (reports.each i low).0 lines.0 report.shown lines.1 lines.2)))
    of

pub journal_of_run : (files : Option (List NamedFile)) (setup : List ℕ) (reindex : Bool) (tables : List ClosedTable) (answers : List (List ℕ)) (count : ℕ) (run : IsWholeRun files setup reindex tables answers count)
    → IsJournalOf run.history.opened (journal_text run.history.journal) run.history.journal
journal_of_run files setup reindex tables answers count run = record {
  text_is = refl;
  legal = run.legal;
  of_stations = run.of_stations;
  of_lines = of_lines run.history.opened run.history.journal run.read.scripts answers run.run.reports run.of_stations;
  few = run.count_bounded;
}

pub opened_by : (files : Option (List NamedFile)) (setup : List ℕ) (reindex : Bool) (tables : List ClosedTable) (answers : List (List ℕ)) (count : ℕ) (run : IsWholeRun files setup reindex tables answers count)
    → IsOpenedBy files setup reindex run.history.opened
opened_by files setup reindex tables answers count run = record { read = run.read; all = run.all; from = record { opening = run.run.opened; stations = run.run.stations } }

-- where the text is a journal's, only want of memory refutes nothing
pub only_memory : (opened : Opened) (text : List ℕ) (journal : List Entry) (fault : AuditFault) → IsJournalOf opened text journal → RefutesAll opened text fault → fault ≡ NoMemory
only_memory opened text journal (NoEntry n) is refuted = absurd (refuted journal is)
only_memory opened text journal (Differs d) is refuted = absurd (refuted journal is)
only_memory opened text journal TooLong is refuted = absurd (refuted journal is)
only_memory opened text journal NoMemory is refuted = refl

-- ---- the journal's file of a run

module _ (files : Option (List NamedFile)) (setup : List ℕ) (reindex : Bool) (today : Day) (written : List NamedFile) (counts : CommandCounts) (served : IsServed files setup reindex today true written counts) where
  -- its text, and what this tells
  abbrev pub text_of_run : IsJournalText files setup reindex served.run.history.journal (run_files today served.tables served.answers) served.text
  text_of_run = (served.told_text refl).0

  abbrev pub told_of_run : WholeJournal
  told_of_run = told_run text_of_run.read reindex served.run.history.journal (run_files today served.tables served.answers)

  -- it tells nothing else
  pub one_told : (journal : WholeJournal) → CanBeTold journal → served.text ≡ whole_text journal → told_of_run ≡ journal
  one_told journal whole is = whole_one told_of_run journal (served.told_text refl).1 whole (sym text_of_run.text_is ∙ is)

  pub is_whole : IsNotWhole served.text → ⊥
  is_whole not_whole = not_whole told_of_run (served.told_text refl).1 text_of_run.text_is

  pub as_reindexed : (journal : WholeJournal) → CanBeTold journal → served.text ≡ whole_text journal → journal.reindex ≡ reindex
  as_reindexed journal whole is = sym (ap (λ (j : WholeJournal). j.reindex) (one_told journal whole is))

  -- the lines between are those of the run's entries
  pub entries_of_run : (journal : WholeJournal) → CanBeTold journal → served.text ≡ whole_text journal → IsJournalOf served.run.history.opened (lines_and journal.entries []) served.run.history.journal
  entries_of_run journal whole is =
      subst (λ (j : WholeJournal). IsJournalOf served.run.history.opened (lines_and j.entries []) served.run.history.journal) (one_told journal whole is)
      (journal_of_run files setup reindex served.tables served.answers counts.all served.run)

-- ---- the audit of a run's journal on the run's files

pub and_both : (a b : Bool) → a ≡ true → b ≡ true → (a && b) ≡ true
and_both true b ha hb = hb
and_both false b ha hb = absurd cc

-- the same file
pub same_content_as_itself : (file : FileSum) → same_content file file ≡ true
same_content_as_itself file = and_both (file.length == file.length) (bytes_eq file.digest file.digest) (eq-eqb file.length file.length refl) ((bytes_eq-Decides file.digest file.digest).1 refl)

-- no file of a list is another than itself
none_other : (sums : List FileSum) → first_other sums sums ≡ None
none_other [] = refl
none_other (sum ∷ sums) = ap (λ (b : Bool). cond b (first_other sums sums) (Some sum.path)) (same_content_as_itself sum) ∙ none_other sums

module _ (files later : List NamedFile) (options : Options) (today : Day) (written : List NamedFile) (counts : CommandCounts) (served : IsServed (Some files) options.setup.now options.reindex today true written counts)
    (still : HaveStill files later) (there : IsFileOf (Some later) options.journal.now served.text) where
  -- the journal that the audit reads is the run's
  pub one_text : (text : List ℕ) → IsFileOf (Some later) options.journal.now text → served.text ≡ text
  one_text text found = one_file later options.journal.now served.text text there found

  -- its tables are the run's
  pub same_tables : (opened : Opened) → IsOpenedBy (Some later) options.setup.now options.reindex opened → served.run.history.opened ≡ opened
  same_tables opened again =
      let setup : List ℕ = options.setup.now in
      let first : IsOpenedBy (Some files) setup options.reindex served.run.history.opened = opened_by (Some files) setup options.reindex served.tables served.answers counts.all served.run in
      one_opening later setup options.reindex served.run.history.opened opened (opens_as_before files later setup still options.reindex served.run.history.opened first) again

  -- its entries hold
  not_refuted : (why : AuditFault) → IsRefuted (Some later) options why → why ≡ NoMemory
  not_refuted why refuted =
      let in_file = refuted.asked.of_run.in_file in
      let is : served.text ≡ whole_text refuted.journal = one_text in_file.text in_file.found ∙ in_file.text_is in
      let of_run = entries_of_run (Some files) options.setup.now options.reindex today written counts served refuted.journal in_file.whole is in
      let moved : IsJournalOf refuted.opened (lines_and refuted.journal.entries []) served.run.history.journal =
      subst (λ (o : Opened). IsJournalOf o (lines_and refuted.journal.entries []) served.run.history.journal) (same_tables refuted.opened refuted.asked.tables) of_run in
      only_memory refuted.opened (lines_and refuted.journal.entries []) served.run.history.journal why moved refuted.refuted

  -- it is a whole one
  never_cut : (begun : Bool) → IsNoJournalIn (Some later) options.journal.now begun → ⊥
  never_cut begun other =
      is_whole (Some files) options.setup.now options.reindex today written counts served (subst IsNotWhole (sym (one_text other.0 other.1)) other.2)

  never_other_reindex : (of_run : Bool) → IsOtherReindex (Some later) options of_run → ⊥
  never_other_reindex of_run other =
      let is : served.text ≡ whole_text other.0 = one_text other.1.text other.1.found ∙ other.1.text_is in
      other.3 (sym other.2 ∙ as_reindexed (Some files) options.setup.now options.reindex today written counts served other.0 other.1.whole is)

  never_other_file : (path : List ℕ) → IsOtherFile (Some later) options path → ⊥
  never_other_file path other =
      let is : served.text ≡ whole_text other.0 = one_text other.2.text other.2.found ∙ other.2.text_is in
      let text = text_of_run (Some files) options.setup.now options.reindex today written counts served in
      let told : text.read ≡ other.0.read =
      ap (λ (j : WholeJournal). j.read) (one_told (Some files) options.setup.now options.reindex today written counts served other.0 other.2.whole is) in
      let read : text.read ≡ other.1 = notes_as_before files later options.setup.now still text.read other.1 text.noted other.4 in
      let none : first_other other.0.read other.1 ≡ None = (λ i. first_other (sym told i) (sym read i)) ∙ none_other text.read in
      let clash : None ≡ Some path = sym none ∙ other.5 in
      absurd cc

  pub never_refuted : (why : AuditFailure) → IsRefutation why → IsFailedBy (Some later) options why → ⊥
  never_refuted (Audit (NoEntry n)) is failed = let e : NoEntry n ≡ NoMemory = not_refuted (NoEntry n) failed in absurd cc
  never_refuted (Audit (Differs d)) is failed = let e : Differs d ≡ NoMemory = not_refuted (Differs d) failed in absurd cc
  never_refuted (Audit TooLong) is failed = let e : TooLong ≡ NoMemory = not_refuted TooLong failed in absurd cc
  never_refuted (Audit NoMemory) is failed = failed
  never_refuted (NoJournal path) is failed = never_cut false failed.1
  never_refuted (CutJournal path) is failed = never_cut true failed.1
  never_refuted (OtherReindex of_run) is failed = never_other_reindex of_run failed
  never_refuted (OtherFile path) is failed = never_other_file path failed
  never_refuted (Serve f) is failed = is
  never_refuted Unread is failed = is
  never_refuted (UnrecoveredJournal path) is failed = is
