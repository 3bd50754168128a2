-- The answers of a run and its journal.
use Rattle.std.proofs.Common.{◌≡◌, ℕ, zero, suc, ◌+◌, Bool, true, false, List, [], ◌∷◌, ◌++◌, map, Option, Some, refl, ap, subst, ◌∙◌, arith, Contains}
use Rattle.std.specs.Prelude.{slice_get}
use Rattle.std.specs.List.{AllByRecursion}
use Rattle.std.proofs.lemmas.List.Elements.{Contains-append_right}
use Rattle.dbf_fields.specs.declared.day.Day.{Day}
use Rattle.folders.specs.declared.named.NamedFile.{NamedFile}
use Rattle.office_run.specs.declared.closed.ClosedTable.{ClosedTable}
use Rattle.office_run.specs.declared.counts.CommandCounts.{CommandCounts}
use Rattle.office_run.specs.AnswerFiles.{answer_file, without_rows, AllHaveAnswers, HasEntries}
use Rattle.office_run.specs.Closing.{answer_files, run_files, tables_files}
use Rattle.office_run.specs.JournalFile.{journal_file, told_run}
use Rattle.office_run.specs.Reports.{Shown, answered, status, receipts_of}
use Rattle.office_run.specs.Served.{asked_files, IsServed}

-- ---- what was shown

-- but for the status rows it is the answers
answers_alone : (shown : List Shown) → without_rows shown ≡ map answered (receipts_of shown)
answers_alone [] = refl
answers_alone (answered r ∷ xs) = ap (λ (l : List Shown). answered r ∷ l) (answers_alone xs)
answers_alone (status row ∷ xs) = answers_alone xs

-- ---- files

-- what holds of each element
all_left : {X : Type 0} (P : X → Type 0) (xs ys : List X) → AllByRecursion P (xs ++ ys) → AllByRecursion P xs
all_left P [] ys all = tt
all_left P (x ∷ xs) ys all = (all.0, all_left P xs ys all.1)

all_right : {X : Type 0} (P : X → Type 0) (xs ys : List X) → AllByRecursion P (xs ++ ys) → AllByRecursion P ys
all_right P [] ys all = all
all_right P (x ∷ xs) ys all = all_right P xs ys all.1

all_weaker : {X : Type 0} (P Q : X → Type 0) → ((x : X) → P x → Q x) → (xs : List X) → AllByRecursion P xs → AllByRecursion Q xs
all_weaker P Q weaker [] all = tt
all_weaker P Q weaker (x ∷ xs) all = (weaker x all.0, all_weaker P Q weaker xs all.1)

-- a list contains each of its elements
pub all_contained : {X : Type 0} (xs : List X) → AllByRecursion (Contains xs) xs
all_contained [] = tt
all_contained (x ∷ xs) = ((0, omega arith, refl), all_weaker (Contains xs) (Contains (x ∷ xs)) (λ y h. Contains-append_right (x ∷ []) xs y h) xs (all_contained xs))

-- the file of the answers of an index
answers_at : (P : NamedFile → Type 0) (station : ℕ) (answers : List (List ℕ)) (i : ℕ) (text : List ℕ) → AllByRecursion P (answer_files station answers) → slice_get answers i ≡ Some text
    → P (answer_file (station + i) text)
answers_at P station [] i text all at = absurd cc
answers_at P station (a ∷ rest) zero text all at =
    let same : a ≡ text = cc in
    let here : station ≡ station + 0 = omega arith in
    subst (λ (n : ℕ). P (answer_file n text)) here (subst (λ (t : List ℕ). P (answer_file station t)) same all.0)
answers_at P station (a ∷ rest) (suc i) text all at =
    let there : station + 1 + i ≡ station + suc i = omega arith in
    subst (λ (n : ℕ). P (answer_file n text)) there (answers_at P (station + 1) rest i text all.1 at)

-- without that of the journal
plain_part : (P : NamedFile → Type 0) (journal : Bool) (today : Day) (tables : List ClosedTable) (answers : List (List ℕ)) (text : List ℕ) → AllByRecursion P (asked_files journal today tables answers text)
    → AllByRecursion P (run_files today tables answers)
plain_part P true today tables answers text all = all_left P (run_files today tables answers) (journal_file text ∷ []) all
plain_part P false today tables answers text all = all

module _ (files : Option (List NamedFile)) (setup : List ℕ) (reindex : Bool) (today : Day) (journal : Bool) (written : List NamedFile) (counts : CommandCounts) (served : IsServed files setup reindex today journal written counts)
    (is_there : NamedFile → Type 0) (there : AllByRecursion is_there written) where
  all_asked : AllByRecursion is_there (asked_files journal today served.tables served.answers served.text)
  all_asked = subst (AllByRecursion is_there) served.written_is there

  answers_there : AllByRecursion is_there (answer_files 1 served.answers)
  answers_there = all_right is_there (tables_files today.year today.month today.day served.tables) (answer_files 1 served.answers)
      (plain_part is_there journal today served.tables served.answers served.text all_asked)

  -- each station has its answers
  pub all_answered : AllHaveAnswers is_there served.run.history served.run.read.scripts
  all_answered i low =
      let has = served.run.run.reports.each i low in
      let at : 1 + i ≡ i + 1 = omega arith in (
        has.0,
        has.2,
        record {
          text = has.1;
          file = subst (λ (n : ℕ). is_there (answer_file n has.1)) at (answers_at is_there 1 served.answers i has.1 answers_there has.3);
          report = has.4;
          answers = answers_alone has.4.shown ∙ ap (map answered) has.4.own;
        },
      )

  -- and the journal's file, where it is asked for, has its entries
  pub entries_told : journal ≡ true → HasEntries is_there served.run.history.journal
  entries_told is =
      let asked = served.told_text is in
      let last : is_there (journal_file served.text) =
      (all_right is_there (run_files today served.tables served.answers) (journal_file served.text ∷ [])
      (subst (λ (b : Bool). AllByRecursion is_there (asked_files b today served.tables served.answers served.text)) is all_asked)).0 in
      record {
        told = told_run asked.0.read reindex served.run.history.journal (run_files today served.tables served.answers);
        whole = asked.1;
        file = subst (λ (t : List ℕ). is_there (journal_file t)) asked.0.text_is last;
        entries = refl;
      }
