-- Texts of a file are marked one by one, and those without a mark are dropped.
use Rattle.std.proofs.Common.{◌≡◌, ◌≢◌, ℕ, suc, ◌+◌, ◌<◌, ◌≤◌, Bool, true, false, List, [], ◌∷◌, ◌++◌, length, set, length-set, nat_eq, refl, ap, sym, ◌∙◌, ⊎_elim, eq-eqb, ne_eqb, arith}
use Rattle.std.proofs.lemmas.Bool.{cases_eq, cases_lt}
use Rattle.std.proofs.lemmas.List.{get_or_past, get_or-set_same, get_or-set_other}
use Rattle.std.proofs.lemmas.List.Elements.{All-from_recursion, All-from_get_or, recursion_from_All}
use Rattle.std.proofs.lemmas.List.Folds.{list_any-append}
use Rattle.std.proofs.lemmas.List.Sums.{sum_by-cons}
use Rattle.std.specs.List.{list_any, AllByRecursion}
use Rattle.dbf_image.specs.declared.memo_store.file_text.FileText.{FileText}
use Rattle.dbf_image.specs.declared.memo_store.file_text.TheConstants.{FILE_TEXTS}
use Rattle.dbf_image.specs.FileTexts.{no_file_text, file_text_at, blocks_of_file, length_kept, IsInFile, Unmarks, MarksTexts, DropsTexts, KeepsTexts}
use Rattle.dbf_image.specs.MemoChains.{blocks_in}
use Rattle.dbf_image.proofs.MemoMarking.{or_false, or_true}

set_same : (ts : List FileText) (i : ℕ) (t : FileText) → i < length ts → file_text_at (set ts i t) i ≡ t
set_same ts i t lt = get_or-set_same ts i t no_file_text lt

set_other : (ts : List FileText) (i j : ℕ) (t : FileText) → j ≢ i → file_text_at (set ts i t) j ≡ file_text_at ts j
set_other ts i j t ne = get_or-set_other ts i j t no_file_text ne

-- a part of a text that stays where another part is changed
same_part : {X : Type 0} (f : FileText → X) (ts : List FileText) (i j : ℕ) (t : FileText) → i < length ts → f t ≡ f (file_text_at ts i) → f (file_text_at (set ts i t) j) ≡ f (file_text_at ts j)
same_part f ts i j t lt same = ⊎_elim
    (λ e. rw e (ap f (set_same ts i t lt) ∙ same))
    (λ ne. ap f (set_other ts i j t ne))
    (cases_eq j i)

pub unmarks_none : (ts : List FileText) → Unmarks 0 ts ts
unmarks_none ts = record { same_length = refl; starts = λ i. refl; lengths = λ i. refl; clear = λ i lt. absurd (omega (arith, lt)) }

pub unmarks_more : (n : ℕ) (ts us : List FileText) (t : FileText) → n < length us → t.start ≡ (file_text_at us n).start → t.length ≡ (file_text_at us n).length → t.kept ≡ false
    → Unmarks n ts us → Unmarks (n + 1) ts (set us n t)
unmarks_more n ts us t lt start long off u = record {
  same_length = length-set us n t ∙ u.same_length;
  starts = λ i. same_part (λ (x : FileText). x.start) us n i t lt start ∙ u.starts i;
  lengths = λ i. same_part (λ (x : FileText). x.length) us n i t lt long ∙ u.lengths i;
  clear = λ i le. ⊎_elim
      (λ e. rw e (ap (λ (x : FileText). x.kept) (set_same us n t lt) ∙ off))
      (λ ne. ap (λ (x : FileText). x.kept) (set_other us n i t ne) ∙ u.clear i (omega (arith, le, ne)))
      (cases_eq i n);
}

-- no number is listed yet
pub marks_start : (ts us : List FileText) → Unmarks (length ts) ts us → MarksTexts ts us []
marks_start ts us u = record { same_length = u.same_length; starts = u.starts; lengths = u.lengths; marks = λ i lt. u.clear i lt }

-- a number that no text has
pub marks_none : (k : ℕ) (ts us : List FileText) (numbers : List ℕ) → ((i : ℕ) → i < length ts → FILE_TEXTS + i ≢ k) → MarksTexts ts us numbers → MarksTexts ts us (numbers ++ k ∷ [])
marks_none k ts us numbers past m = record {
  same_length = m.same_length;
  starts = m.starts;
  lengths = m.lengths;
  marks = λ i lt. m.marks i lt ∙ sym (list_any-append (nat_eq (FILE_TEXTS + i)) numbers (k ∷ [])
      ∙ or_false (list_any (nat_eq (FILE_TEXTS + i)) numbers) (nat_eq (FILE_TEXTS + i) k) (ne_eqb (FILE_TEXTS + i) k (past i lt)));
}

pub marks_more : (k n : ℕ) (ts us : List FileText) (numbers : List ℕ) (t : FileText) → k ≡ FILE_TEXTS + n → n < length us
    → t.start ≡ (file_text_at us n).start → t.length ≡ (file_text_at us n).length → t.kept ≡ true → MarksTexts ts us numbers → MarksTexts ts (set us n t) (numbers ++ k ∷ [])
marks_more k n ts us numbers t is lt start long on m = record {
  same_length = length-set us n t ∙ m.same_length;
  starts = λ i. same_part (λ (x : FileText). x.start) us n i t lt start ∙ m.starts i;
  lengths = λ i. same_part (λ (x : FileText). x.length) us n i t lt long ∙ m.lengths i;
  marks = λ i le. ⊎_elim
      (λ e. ap (λ (j : ℕ). (file_text_at (set us n t) j).kept) e ∙ ap (λ (x : FileText). x.kept) (set_same us n t lt) ∙ on
      ∙ sym (list_any-append (nat_eq (FILE_TEXTS + i)) numbers (k ∷ []) ∙ or_true (list_any (nat_eq (FILE_TEXTS + i)) numbers) (nat_eq (FILE_TEXTS + i) k) (eq-eqb (FILE_TEXTS + i) k (omega (arith, e, is)))))
      (λ ne. ap (λ (x : FileText). x.kept) (set_other us n i t ne) ∙ m.marks i le
      ∙ sym (list_any-append (nat_eq (FILE_TEXTS + i)) numbers (k ∷ []) ∙ or_false (list_any (nat_eq (FILE_TEXTS + i)) numbers) (nat_eq (FILE_TEXTS + i) k) (ne_eqb (FILE_TEXTS + i) k (λ s. ne (omega (arith, s, is))))))
      (cases_eq i n);
}

-- ---- what has no mark is dropped

pub drops_none : (ts : List FileText) → DropsTexts 0 ts ts
drops_none ts = record { same_length = refl; starts = λ i. refl; lengths = λ i lt. absurd (omega (arith, lt)); later = λ i le. refl }

pub drops_keep : (n : ℕ) (ts us : List FileText) → (file_text_at us n).kept ≡ true → DropsTexts n ts us → DropsTexts (n + 1) ts us
drops_keep n ts us on d =
    let same : file_text_at us n ≡ file_text_at ts n = d.later n (omega arith) in
    let mark : (file_text_at ts n).kept ≡ true = ap (λ (x : FileText). x.kept) (sym same) ∙ on in
    record {
      same_length = d.same_length;
      starts = d.starts;
      lengths = λ i lt. ⊎_elim
          (λ e. rw e (ap (λ (x : FileText). x.length) same ∙ ap (λ b. length_kept b (file_text_at ts n).length) (sym mark)))
          (λ ne. d.lengths i (omega (arith, lt, ne)))
          (cases_eq i n);
      later = λ i le. d.later i (omega (arith, le));
    }

pub drops_one : (n : ℕ) (ts us : List FileText) (t : FileText) → n < length us → (file_text_at us n).kept ≡ false → t.start ≡ (file_text_at us n).start → t.length ≡ 0
    → DropsTexts n ts us → DropsTexts (n + 1) ts (set us n t)
drops_one n ts us t there off start long d =
    let same : file_text_at us n ≡ file_text_at ts n = d.later n (omega arith) in
    let mark : (file_text_at ts n).kept ≡ false = ap (λ (x : FileText). x.kept) (sym same) ∙ off in
    record {
      same_length = length-set us n t ∙ d.same_length;
      starts = λ i. same_part (λ (x : FileText). x.start) us n i t there start ∙ d.starts i;
      lengths = λ i lt. ⊎_elim
          (λ e. rw e (ap (λ (x : FileText). x.length) (set_same us n t there) ∙ long ∙ ap (λ b. length_kept b (file_text_at ts n).length) (sym mark)))
          (λ ne. ap (λ (x : FileText). x.length) (set_other us n i t ne) ∙ d.lengths i (omega (arith, lt, ne)))
          (cases_eq i n);
      later = λ i le. set_other us n i t (λ s. absurd (omega (arith, s, le))) ∙ d.later i (omega (arith, le));
    }

nothing_kept : (b : Bool) → length_kept b 0 ≡ 0
nothing_kept true = refl
nothing_kept false = refl

pub keeps_from : (ts us vs : List FileText) (numbers : List ℕ) → MarksTexts ts us numbers → DropsTexts (length us) us vs → KeepsTexts ts vs numbers
keeps_from ts us vs numbers m d = record {
  same_length = d.same_length ∙ m.same_length;
  starts = λ i. d.starts i ∙ m.starts i;
  lengths = λ i. ⊎_elim
      (λ lt. d.lengths i (omega (arith, lt, m.same_length)) ∙ rw (m.marks i lt, m.lengths i) refl)
      (λ le. ap (λ (x : FileText). x.length) (get_or_past vs i no_file_text (omega (arith, le, d.same_length, m.same_length)))
      ∙ sym (ap (λ (x : FileText). length_kept (list_any (nat_eq (FILE_TEXTS + i)) numbers) x.length) (get_or_past ts i no_file_text le) ∙ nothing_kept (list_any (nat_eq (FILE_TEXTS + i)) numbers)))
      (cases_lt i (length ts));
}

-- ---- what stays stands in the file still, and takes no more blocks

length_less : (b : Bool) (n : ℕ) → length_kept b n ≤ n
length_less true n = omega arith
length_less false n = omega arith

pub keeps_inside : (file : List ℕ) (ts us : List FileText) (numbers : List ℕ) → KeepsTexts ts us numbers → AllByRecursion (IsInFile file) ts → AllByRecursion (IsInFile file) us
keeps_inside file ts us numbers keeps inside = recursion_from_All (IsInFile file) us (All-from_get_or (IsInFile file) us no_file_text (λ i lt.
    let here : IsInFile file (file_text_at ts i) = All-from_recursion (IsInFile file) ts inside i no_file_text (omega (arith, lt, keeps.same_length)) in
    omega (arith, here, keeps.starts i, keeps.lengths i, length_less (list_any (nat_eq (FILE_TEXTS + i)) numbers) (file_text_at ts i).length)))

pub fewer_blocks : (ts us : List FileText) → length us ≡ length ts → ((i : ℕ) → (file_text_at us i).length ≤ (file_text_at ts i).length) → blocks_of_file us ≤ blocks_of_file ts
fewer_blocks [] [] same less = omega arith
fewer_blocks [] (u ∷ us) same less = absurd (omega (arith, same))
fewer_blocks (t ∷ ts) [] same less = absurd (omega (arith, same))
fewer_blocks (t ∷ ts) (u ∷ us) same less =
    let rest = fewer_blocks ts us (omega (arith, same)) (λ i. less (suc i)) in
    let here : u.length ≤ t.length = less 0 in
    omega (arith, rest, here, sum_by-cons (λ (x : FileText). blocks_in x.length) t ts, sum_by-cons (λ (x : FileText). blocks_in x.length) u us)

pub keeps_fewer : (ts us : List FileText) (numbers : List ℕ) → KeepsTexts ts us numbers → blocks_of_file us ≤ blocks_of_file ts
keeps_fewer ts us numbers keeps = fewer_blocks ts us keeps.same_length (λ i.
    omega (arith, keeps.lengths i, length_less (list_any (nat_eq (FILE_TEXTS + i)) numbers) (file_text_at ts i).length))
