-- A run that is started again and again.
use Rattle.std.proofs.Common.{◌≡◌, ◌≢◌, ◌⊎◌, false, List, [], ◌∷◌, ◌++◌, Result, Ok, Err, inl, inr, refl, sym, ap, subst, ◌∙◌, append_assoc}
use Rattle.std.specs.Prelude.{bytes_eq}
use Rattle.std.proofs.lemmas.Bool.{cases_Bool}
use Rattle.std.proofs.lemmas.List.{append-nil}
use Rattle.files_in_place.specs.Disk.{DiskMeaning}
use Rattle.files_in_place.specs.Folder.{Name, Folder, first_of, is_reserved, recovered}
use Rattle.files_in_place.specs.History.{AreAlike}
use Rattle.files_in_place.specs.Recovery.{RecoversTo}
use Rattle.folders.specs.declared.named.NamedFile.{NamedFile}
use Rattle.folders.specs.Files.{file_at}
use Rattle.folders.specs.Placed.{names_of, with_files}
use Rattle.folders.proofs.SinceLaws.{with_files_same}
use Rattle.office_run.specs.declared.fault.ServeFault.{ServeFault}
use Rattle.program_frame.specs.declared.ending.Failure.{Failure}
use Rattle.program_frame.specs.declared.ending.Failure.TheVariants.{BadDate, Work, Folder as OfFolder}
use Rattle.program_frame.specs.declared.folder.FolderFault.TheVariants.{BadList, DayOpen, InUse, Unfinished, UnknownDay, Unopened, Unrecovered, Unreplaced, Unwritten}
use Rattle.program_frame.specs.Jobs.{AreFilesOf}
use Rattle.program_frame.specs.Placing.{EndsInPlace, MayPut, RecoversAsOneOf}
use Rattle.server_program.specs.declared.options.Options.{Options}
use Rattle.server_program.specs.declared.served.Served.{Served}
use Rattle.server_program.specs.Program.{IsServedBy}
use Rattle.server_program.specs.Starts.{inputs_of, EndsAfterStarts, HasOldOrOneSet, HasWholeSets, Input, IsSetOf, IsStartedAgain, StandsFor, Start, WriteNames}

-- ---- one start

or_unfinished : (why : Failure ServeFault) → (why ≢ OfFolder Unfinished) ⊎ (why ≡ OfFolder Unfinished)
or_unfinished BadDate = inl (λ e. absurd cc)
or_unfinished (Work fault) = inl (λ e. absurd cc)
or_unfinished (OfFolder InUse) = inl (λ e. absurd cc)
or_unfinished (OfFolder Unopened) = inl (λ e. absurd cc)
or_unfinished (OfFolder Unrecovered) = inl (λ e. absurd cc)
or_unfinished (OfFolder BadList) = inl (λ e. absurd cc)
or_unfinished (OfFolder (Unreplaced name)) = inl (λ e. absurd cc)
or_unfinished (OfFolder DayOpen) = inl (λ e. absurd cc)
or_unfinished (OfFolder (UnknownDay log said)) = inl (λ e. absurd cc)
or_unfinished (OfFolder Unwritten) = inl (λ e. absurd cc)
or_unfinished (OfFolder Unfinished) = inr refl

abbrev failed_for : Failure ServeFault → Result Served (Failure ServeFault)
failed_for why = Err why

-- what a run leaves: what recovery makes of a folder before it, or of that folder with the run's set in its places
abbrev IsLeft : Options → Input → (Folder → Type 0) → Folder → Folder → Type 0
IsLeft options input before old c = before c ⊎ ((set : List NamedFile) × IsSetOf options input set × RecoversTo (with_files set old) c)

module _ {D : Type 0} (m : DiskMeaning D) (promised : m.keeps_promises) (options : Options) (start end : D) (input : Input) where
  of_put : (report : Served) → MayPut m (λ set. IsServedBy input options set report) (RecoversAsOneOf (m.may_leave start)) (recovered (m.seen start)) start end
      → (c : Folder) → m.left_since end (m.moment start) c → IsLeft options input (RecoversAsOneOf (m.may_leave start)) (recovered (m.seen start)) c
  of_put report put c left = elim (put.moments.each c left) [
    | inl before ↦ inl before
    | inr new ↦ inr (put.files, (report, put.such), new)
  ]

  of_putting : MayPut m (AreFilesOf (IsServedBy input options)) (RecoversAsOneOf (m.may_leave start)) (recovered (m.seen start)) start end
      → (c : Folder) → m.left_since end (m.moment start) c → IsLeft options input (RecoversAsOneOf (m.may_leave start)) (recovered (m.seen start)) c
  of_putting put c left = elim (put.moments.each c left) [
    | inl before ↦ inl before
    | inr new ↦ inr (put.files, put.such, new)
  ]

  left_by : (ended : Result Served (Failure ServeFault)) → EndsInPlace m (IsServedBy input options) (RecoversAsOneOf (m.may_leave start)) (recovered (m.seen start)) start end ended
      → (c : Folder) → m.left_since end (m.moment start) c → IsLeft options input (RecoversAsOneOf (m.may_leave start)) (recovered (m.seen start)) c
  left_by (Ok report) ends c left = of_put report (ends.placed promised).put c left
  left_by (Err why) ends c left = elim (or_unfinished why) [
    | inl other ↦ inl ((ends.old_files promised other).each c left)
    | inr is ↦ of_putting (ends.unfinished promised (ap failed_for is)).put c left
  ]

-- ---- start after start

module _ (options : Options) where
  alike_last : (inputs : List Input) (old mid last : Folder) → HasWholeSets options inputs old mid → AreAlike last mid → HasWholeSets options inputs old last
  alike_last [] old mid last has same = λ n. same n ∙ has n
  alike_last (input ∷ others) old mid last has same = elim has [
    | inl rest ↦ inl (alike_last others old mid last rest same)
    | inr put ↦ inr (put.0, put.1, alike_last others (with_files put.0 old) mid last put.2 same)
  ]

  one_left : (inputs : List Input) (input : Input) (old last : Folder) → HasWholeSets options inputs old last → HasWholeSets options (inputs ++ input ∷ []) old last
  one_left [] input old last has = inl has
  one_left (i ∷ others) input old last has = elim has [
    | inl rest ↦ inl (one_left others input old last rest)
    | inr put ↦ inr (put.0, put.1, one_left others input (with_files put.0 old) last put.2)
  ]

  one_put : (inputs : List Input) (input : Input) (old mid : Folder) (set : List NamedFile) → IsSetOf options input set → HasWholeSets options inputs old mid
      → HasWholeSets options (inputs ++ input ∷ []) old (with_files set mid)
  one_put [] input old mid set is has = inr (set, is, λ n. with_files_same set old mid (λ name free. has name) n)
  one_put (i ∷ others) input old mid set is has = elim has [
    | inl rest ↦ inl (one_put others input old mid set is rest)
    | inr put ↦ inr (put.0, put.1, one_put others input (with_files put.0 old) mid set is put.2)
  ]

-- what is left stands for the folder after runs on these inputs
record Stands (options : Options) (inputs : List Input) (old folder : Folder) : Type 0 where
  mid : Folder
  sets : HasWholeSets options inputs old mid
  same : RecoversTo mid folder

module _ {D : Type 0} (m : DiskMeaning D) (promised : m.keeps_promises) (options : Options) (old : Folder) where
  next_stands : (inputs : List Input) (start : D) (made : Start D) → ((c : Folder) → m.may_leave start c → Stands options inputs old c)
      → IsStartedAgain m options made.input start made.next → (c : Folder) → m.may_leave made.next c → Stands options (inputs ++ made.input ∷ []) old c
  next_stands inputs start made before again c may =
      elim (left_by m promised options start again.end made.input again.ended again.ends c (again.left c may)) [
        | inl from ↦
            let was = before from.0 from.1 in
            record { mid = was.mid; sets = one_left options inputs made.input old was.mid was.sets; same = λ n. from.2 n ∙ was.same n }
        | inr new ↦
            let was = before (m.seen start) (m.seen_may_stay start promised) in
            record {
              mid = with_files new.0 was.mid;
              sets = one_put options inputs made.input old was.mid new.0 new.1 was.sets;
              same = λ n. new.2 n ∙ with_files_same new.0 was.mid (recovered (m.seen start)) (λ name free. was.same name) n;
            }
      ]

  stands_after : (inputs : List Input) (starts : List (Start D)) (first : D) (last : Folder) → ((c : Folder) → m.may_leave first c → Stands options inputs old c)
      → EndsAfterStarts m options starts first last → HasWholeSets options (inputs ++ inputs_of starts) old last
  stands_after inputs [] first last before ends =
      let was = before (m.seen first) (m.seen_may_stay first promised) in
      subst (λ (is : List Input). HasWholeSets options is old last) (sym (append-nil inputs)) (alike_last options inputs old was.mid last was.sets (λ n. ends n ∙ was.same n))
  stands_after inputs (start ∷ others) first last before ends =
      subst (λ (is : List Input). HasWholeSets options is old last) (append_assoc inputs (start.input ∷ []) (inputs_of others))
      (stands_after (inputs ++ start.input ∷ []) others start.next last (next_stands inputs first start before ends.0) ends.1)

  pub whole_sets : (starts : List (Start D)) (first : D) (last : Folder) → StandsFor m old first → EndsAfterStarts m options starts first last
      → HasWholeSets options (inputs_of starts) old last
  whole_sets starts first last stands ends =
      stands_after [] starts first last (λ c may. record { mid = old; sets = λ n. refl; same = stands c may }) ends

-- ---- sets of the same names

same_head : (a b : Name) (more rest : List Name) → (a ∷ more) ≡ (b ∷ rest) → a ≡ b
same_head a b more rest same = cc

same_tail : (a b : Name) (more rest : List Name) → (a ∷ more) ≡ (b ∷ rest) → more ≡ rest
same_tail a b more rest same = cc

not_none : (a : Name) (more : List Name) → [] ≡ (a ∷ more) → ⊥
not_none a more same = cc

-- of files of the same names the first to be looked for are found
covers : (over under : List NamedFile) (n : Name) (folder : Folder) → names_of over ≡ names_of under → first_of (file_at over n) (first_of (file_at under n) (folder n)) ≡ first_of (file_at over n) (folder n)
covers [] [] n folder same = refl
covers [] (u ∷ us) n folder same = absurd (not_none u.name (names_of us) same)
covers (o ∷ os) [] n folder same = absurd (not_none o.name (names_of os) (sym same))
covers (o ∷ os) (u ∷ us) n folder same = elim (cases_Bool (bytes_eq o.name n)) [
  | inl at ↦ rw at refl
  | inr other ↦
      let other_too : bytes_eq u.name n ≡ false = ap (λ (name : Name). bytes_eq name n) (sym (same_head o.name u.name (names_of os) (names_of us) same)) ∙ other in
      rw other (rw other_too (covers os us n folder (same_tail o.name u.name (names_of os) (names_of us) same)))
]

with_same : (over under : List NamedFile) (folder : Folder) → names_of over ≡ names_of under → AreAlike (with_files over (with_files under folder)) (with_files over folder)
with_same over under folder same n = elim (cases_Bool (is_reserved n)) [
  | inl reserved ↦ rw reserved refl
  | inr free ↦ rw free (covers over under n folder same)
]

-- of runs that write the same names the last to put its files covers those before it
covered : (options : Options) (names : List Name) (inputs : List Input) (set : List NamedFile) (old last : Folder) → WriteNames options names inputs → names_of set ≡ names
    → HasOldOrOneSet options inputs (with_files set old) last → AreAlike last (with_files set old) ⊎ HasOldOrOneSet options inputs old last
covered options names [] set old last same_names named has = inl has
covered options names (input ∷ others) set old last same_names named has = elim has [
  | inl rest ↦ elim (covered options names others set old last same_names.1 named rest) [
    | inl alone ↦ inl alone
    | inr one ↦ inr (inl one)
  ]
  | inr one ↦ inr (inr (one.0, one.1, λ n. one.2 n ∙ with_same one.0 set old (same_names.0 one.0 one.1 ∙ sym named) n))
]

pub one_set : (options : Options) (names : List Name) (inputs : List Input) (old last : Folder) → WriteNames options names inputs
    → HasWholeSets options inputs old last → HasOldOrOneSet options inputs old last
one_set options names [] old last same_names has = has
one_set options names (input ∷ others) old last same_names has = elim has [
  | inl rest ↦ inl (one_set options names others old last same_names.1 rest)
  | inr put ↦
      elim (covered options names others put.0 old last same_names.1 (same_names.0 put.0 put.1) (one_set options names others (with_files put.0 old) last same_names.1 put.2)) [
        | inl alone ↦ inr (put.0, put.1, alone)
        | inr one ↦ inl one
      ]
]
