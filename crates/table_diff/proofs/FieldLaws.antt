-- The fields of two tables.
use Rattle.std.proofs.Common.{◌≡◌, ℕ, ◌+◌, ◌<◌, ◌≤◌, Bool, true, false, cond, not, zero, suc, get_or, List, [], ◌∷◌, ◌++◌, length, length-append, map, None, Some, Option, refl, sym, ap, ◌∙◌, append_assoc, arith, subst}
use Rattle.std.specs.Prelude.{bytes_eq}
use Rattle.std.specs.Bool.{Decides}
use Rattle.std.specs.List.{All, AllByRecursion}
use Rattle.std.proofs.lemmas.Bool.{false≢true, false_from_ne_true, or_parts}
use Rattle.std.proofs.lemmas.Bool.Decides.{Decides-eqb, Decides-and}
use Rattle.std.proofs.lemmas.Slice.Eq.{bytes_eq-Decides}
use Rattle.dbf_fields.specs.declared.field.Field.{Field}
use Rattle.dbf_fields.specs.Faults.{first_fault}
use Rattle.dbf_fields.specs.Field.{folded, has_name, has_width, is_kind}
use Rattle.dbf_fields.specs.Name.{is_name}
use Rattle.dbf_fields.specs.declared.format.TheConstants.{MAX_FIELDS}
use Rattle.std.specs.Int.{is_in_range}
use Rattle.dbf_fields.specs.Schema.{tests_from, IsSchema}
use Rattle.table_diff.specs.declared.fields.SharedField.{SharedField}
use Rattle.table_diff.specs.Changes.{Change, field_changes, fields_of_one, or_other_order}
use Rattle.table_diff.specs.Fields.{is_same_field, are_same_fields, shared_at, shared_field, shared_from, shared_fields}

-- ---- fields are the same where the tests say so

pub same_field : (f g : Field) → Decides (is_same_field f g) (f ≡ g)
same_field f g =
    let named = Decides-and _ _ (bytes_eq-Decides f.name g.name) (Decides-eqb f.kind g.kind) in
    let d = Decides-and _ _ (Decides-and _ _ named (Decides-eqb f.width g.width)) (Decides-eqb f.decimals g.decimals) in (
      λ e. let p = d.0 e in λ i. record { name = p.0.0.0 i; kind = p.0.0.1 i; width = p.0.1 i; decimals = p.1 i },
      λ e. d.1 (((ap (λ (x : Field). x.name) e, ap (λ (x : Field). x.kind) e), ap (λ (x : Field). x.width) e), ap (λ (x : Field). x.decimals) e),
    )

pub same_fields : (old new : List Field) → Decides (are_same_fields old new) (old ≡ new)
same_fields [] [] = (λ e. refl, λ e. refl)
same_fields [] (g ∷ gs) = (λ e. absurd (false≢true e), λ e. absurd cc)
same_fields (f ∷ fs) [] = (λ e. absurd (false≢true e), λ e. absurd cc)
same_fields (f ∷ fs) (g ∷ gs) =
    let d = Decides-and _ _ (same_field f g) (same_fields fs gs) in
    (λ e. let p = d.0 e in λ i. p.0 i ∷ p.1 i, λ e. let first : f ≡ g = cc in let rest : fs ≡ gs = cc in d.1 (first, rest))

other_lengths : (old new : List Field) → are_same_fields old new ≡ true → length old ≡ length new
other_lengths old new e = ap (length {A = Field}) ((same_fields old new).0 e)

pub unlike_lengths : (old new : List Field) → (length old ≡ length new → ⊥) → are_same_fields old new ≡ false
unlike_lengths old new h = false_from_ne_true (are_same_fields old new) (λ e. h (other_lengths old new e))

some_told : (cs : List Change) → or_other_order cs ≡ [] → ⊥
some_told [] e = cc
some_told (c ∷ cs) e = cc

told_none : (b : Bool) (cs : List Change) → cond b [] (or_other_order cs) ≡ [] → b ≡ true
told_none true cs e = refl
told_none false cs e = absurd (some_told cs e)

-- where nothing has changed of the fields they are the same,
pub fields_same : (old new : List Field) → field_changes old new ≡ [] → old ≡ new
fields_same old new e = (same_fields old new).0 (told_none (are_same_fields old new) (fields_of_one old new) e)

-- and nothing has changed of the same fields
pub same_unchanged : (fs : List Field) → field_changes fs fs ≡ []
same_unchanged fs = rw ((same_fields fs fs).1 refl) refl

-- ---- the same fields are matched each with itself

-- a field that is the same in both tables, at the same index
abbrev pub same_at : ℕ → SharedField
same_at index = shared_at index index true

abbrev pub same_from : ℕ → List Field → List SharedField
same_from index [] = []
same_from index (f ∷ fs) = same_at index ∷ same_from (index + 1) fs

found_first : (named same : Bool) (i j : ℕ) (later : List SharedField) → named ≡ true → same ≡ true → cond named (shared_at i j same ∷ []) later ≡ shared_at i j true ∷ []
found_first named same i j later e h = rw (e, h) refl

first_named : (f : Field) (rest : List Field) (i j : ℕ) → shared_field i f j (f ∷ rest) ≡ shared_at i j true ∷ []
first_named f rest i j =
    found_first (bytes_eq f.name f.name) (is_same_field f f) i j (shared_field i f (j + 1) rest) ((bytes_eq-Decides f.name f.name).1 refl) ((same_field f f).1 refl)

found_after : (f : Field) (earlier rest : List Field) (i j k : ℕ) → has_name earlier f.name ≡ false → j + length earlier ≡ k
    → shared_field i f j (earlier ++ f ∷ rest) ≡ shared_at i k true ∷ []
found_after f [] rest i j k h e =
    let same : j ≡ k = omega (arith, e) in
    first_named f rest i j ∙ ap (λ (n : ℕ). shared_at i n true ∷ []) same
found_after f (g ∷ gs) rest i j k h e =
    let parts = or_parts (bytes_eq g.name f.name) (has_name gs f.name) h in
    let other : bytes_eq g.name f.name ≡ false = parts.0 in
    let at : (j + 1) + length gs ≡ k = omega (arith, e) in
    rw other (found_after f gs rest i (j + 1) k parts.1 at)

-- a test that passes, and those after it
passed : {F : Type 0} (b : Bool) (rest : Option F) (fault : F) → cond b rest (Some fault) ≡ None → (b ≡ true) × (rest ≡ None)
passed true rest fault e = (refl, e)
passed false rest fault e = absurd cc

not_true : (b : Bool) → not b ≡ true → b ≡ false
not_true true e = sym e
not_true false e = refl

new_name : (earlier fs : List Field) (f : Field) → first_fault (tests_from earlier (f ∷ fs)) ≡ None
    → (has_name earlier (folded f).name ≡ false) × (first_fault (tests_from (earlier ++ folded f ∷ []) fs) ≡ None)
new_name earlier fs f e =
    let named = passed (is_name f.name) _ _ e in
    let own = passed (not (has_name earlier (folded f).name)) _ _ named.1 in
    let kind = passed (is_kind f.kind) _ _ own.1 in
    let wide = passed (has_width f) _ _ kind.1 in
    (not_true _ own.0, wide.1)

each_with_itself : (earlier fs : List Field) (index : ℕ) → index ≡ length earlier → first_fault (tests_from earlier fs) ≡ None → map folded fs ≡ fs
    → shared_from index fs (earlier ++ fs) ≡ same_from index fs
each_with_itself earlier [] index at e kept = refl
each_with_itself earlier (f ∷ fs) index at e kept =
    let same : folded f ≡ f = cc in
    let rest : map folded fs ≡ fs = cc in
    let parts = new_name earlier fs f e in
    let name : has_name earlier f.name ≡ false = subst (λ (g : Field). has_name earlier g.name ≡ false) same parts.0 in
    let tests : first_fault (tests_from (earlier ++ f ∷ []) fs) ≡ None = subst (λ (g : Field). first_fault (tests_from (earlier ++ g ∷ []) fs) ≡ None) same parts.1 in
    let here = found_after f earlier fs index 0 index name (omega (arith, at)) in
    let next : index + 1 ≡ length (earlier ++ f ∷ []) = simp length-append (omega (arith, at)) in
    let later = each_with_itself (earlier ++ f ∷ []) fs (index + 1) next tests rest in
    let moved = subst (λ (xs : List Field). shared_from (index + 1) fs xs ≡ same_from (index + 1) fs) (append_assoc earlier (f ∷ []) fs) later in
    ap (λ (xs : List SharedField). xs ++ shared_from (index + 1) fs (earlier ++ f ∷ fs)) here ∙ ap (λ (xs : List SharedField). same_at index ∷ xs) moved

pub matched : (fields : List Field) → IsSchema fields → shared_fields fields fields ≡ same_from 0 fields
matched fields is = each_with_itself [] fields 0 refl (passed (is_in_range 1 MAX_FIELDS (length fields)) _ _ is.accepted).1 is.kept

-- ---- where the shared fields lie

-- the indexes of a field that both have lie in their lists
pub record LiesIn (old new : List Field) (s : SharedField) : Type 0 where
  pub old_index : s.old_index < length old
  pub new_index : s.new_index < length new

all_both : {X : Type 0} (P : X → Type 0) (xs ys : List X) → AllByRecursion P xs → AllByRecursion P ys → AllByRecursion P (xs ++ ys)
all_both P [] ys h k = k
all_both P (x ∷ xs) ys h k = (h.0, all_both P xs ys h.1 k)

all_here : {X : Type 0} (P : X → Type 0) (b : Bool) (x : X) (xs : List X) → P x → AllByRecursion P xs → AllByRecursion P (cond b (x ∷ []) xs)
all_here P true x xs h k = (h, tt)
all_here P false x xs h k = k

one_lies : (old new : List Field) (f : Field) (i j : ℕ) (gs : List Field) → i < length old → j + length gs ≡ length new
    → AllByRecursion (LiesIn old new) (shared_field i f j gs)
one_lies old new f i j [] inside at = tt
one_lies old new f i j (g ∷ gs) inside at =
    let here : j < length new = omega (arith, at) in
    let after : (j + 1) + length gs ≡ length new = omega (arith, at) in
    all_here (LiesIn old new) (bytes_eq g.name f.name) (shared_at i j (is_same_field f g)) (shared_field i f (j + 1) gs)
    (record { old_index = inside; new_index = here }) (one_lies old new f i (j + 1) gs inside after)

all_lie : (old new : List Field) (i : ℕ) (fs : List Field) → i + length fs ≡ length old → AllByRecursion (LiesIn old new) (shared_from i fs new)
all_lie old new i [] at = tt
all_lie old new i (f ∷ fs) at =
    let inside : i < length old = omega (arith, at) in
    let after : (i + 1) + length fs ≡ length old = omega (arith, at) in
    let whole : 0 + length new ≡ length new = omega arith in
    all_both (LiesIn old new) (shared_field i f 0 new) (shared_from (i + 1) fs new) (one_lies old new f i 0 new inside whole) (all_lie old new (i + 1) fs after)

pub shared_lie : (old new : List Field) → AllByRecursion (LiesIn old new) (shared_fields old new)
shared_lie old new = all_lie old new 0 old (omega arith)

pub lies_at : (old new : List Field) (xs : List SharedField) (k : ℕ) (d : SharedField) → AllByRecursion (LiesIn old new) xs → k < length xs → LiesIn old new (get_or xs k d)
lies_at old new [] k d h lt = absurd (omega (arith, lt))
lies_at old new (x ∷ xs) zero d h lt = h.0
lies_at old new (x ∷ xs) (suc k) d h lt = lies_at old new xs k d h.1 (omega (arith, lt))

one_length : (b : Bool) (x : SharedField) (xs : List SharedField) → length xs ≤ 1 → length (cond b (x ∷ []) xs) ≤ 1
one_length true x xs h = omega arith
one_length false x xs h = h

one_at_most : (f : Field) (i j : ℕ) (gs : List Field) → length (shared_field i f j gs) ≤ 1
one_at_most f i j [] = omega arith
one_at_most f i j (g ∷ gs) = one_length (bytes_eq g.name f.name) _ (shared_field i f (j + 1) gs) (one_at_most f i (j + 1) gs)

-- no more fields are shared than there are old ones
few_from : (fs new : List Field) (i : ℕ) → length (shared_from i fs new) ≤ length fs
few_from [] new i = omega arith
few_from (f ∷ fs) new i =
    let one : length (shared_field i f 0 new) ≤ 1 = one_at_most f i 0 new in
    let rest : length (shared_from (i + 1) fs new) ≤ length fs = few_from fs new (i + 1) in
    simp length-append (omega (arith, one, rest))

pub few_shared : (old new : List Field) → length (shared_fields old new) ≤ length old
few_shared old new = few_from old new 0

pub old_inside : (old new : List Field) → All (λ (s : SharedField). s.old_index < length old) (shared_fields old new)
old_inside old new k d lt = (lies_at old new (shared_fields old new) k d (shared_lie old new) lt).old_index

pub new_inside : (old new : List Field) → All (λ (s : SharedField). s.new_index < length new) (shared_fields old new)
new_inside old new k d lt = (lies_at old new (shared_fields old new) k d (shared_lie old new) lt).new_index
