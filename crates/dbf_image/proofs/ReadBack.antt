-- The parts of a file that is written are read.
use Rattle.std.proofs.lemmas.List.Folds.{list_all_at}
use Rattle.std.proofs.Common.{◌≡◌, ◌≢◌, ℕ, zero, suc, ◌+◌, ◌-◌, ◌*◌, ◌<◌, ◌≤◌, Bool, true, false, cond, eqb, leb, ◌&&◌, List, [], ◌∷◌, ◌++◌, length, map, take, drop, replicate, get_or, refl, sym, ap, ◌∙◌, append_assoc, arith}
use Rattle.std.specs.Prelude.{slice_index, flat_map}
use Rattle.std.specs.List.{AllByRecursion, before_first, position_or_len, list_all}
use Rattle.std.specs.Int.{is_in_range}
use Rattle.std.specs.Char.{is_ascii_alphabetic}
use Rattle.std.proofs.lemmas.Bool.{and_parts, leb-true, ne_eqb, true≢false, true_from_ne_false}
use Rattle.std.proofs.lemmas.List.{take_at, drop_at, get_or_at, get_or-append_right, get_or_append_left, length-append, length-replicate, get_or-replicate}
use Rattle.std.proofs.lemmas.List.Sums.{position_or_len_is}
use Rattle.dbf_fields.specs.declared.field.Field.{Field}
use Rattle.dbf_fields.specs.Name.{is_name_char, is_name}
use Rattle.dbf_image.specs.DbfText.{chunks, field_of}
use Rattle.dbf_image.specs.Image.{descriptor}
use Rattle.dbf_image.specs.declared.format.TheConstants.{DELETED, DESCRIPTOR, HEADER_END, KEPT, NAME_BYTES}

-- ---- chunks of one size that are joined

pub chunks-join : {X : Type 0} (size : ℕ) (f : X → List ℕ) (xs : List X) (rest : List ℕ) → AllByRecursion (λ x. length (f x) ≡ size) xs
    → chunks size (length xs) (flat_map f xs ++ rest) ≡ map f xs
chunks-join size f [] rest h = refl
chunks-join size f (x ∷ xs) rest h =
    rw (append_assoc (f x) (flat_map f xs) rest, take_at (f x) (flat_map f xs ++ rest) size h.0, drop_at (f x) (flat_map f xs ++ rest) size h.0, chunks-join size f xs rest h.1) refl

pub length-join : {X : Type 0} (size : ℕ) (f : X → List ℕ) (xs : List X) → AllByRecursion (λ x. length (f x) ≡ size) xs → length (flat_map f xs) ≡ length xs * size
length-join size f [] h = omega arith
length-join size f (x ∷ xs) h = omega (arith, length-append (f x) (flat_map f xs), length-join size f xs h.1, h.0)

-- ---- the descriptor of a field

-- the name, and zeros up to eleven bytes
abbrev name_part : Field → List ℕ
name_part f = f.name ++ replicate (NAME_BYTES - length f.name) 0

length-name_part : (f : Field) → length f.name ≤ NAME_BYTES → length (name_part f) ≡ NAME_BYTES
length-name_part f le = omega (arith, length-append f.name (replicate (NAME_BYTES - length f.name) 0), length-replicate {A = ℕ} (NAME_BYTES - length f.name) 0)

pub length-descriptor : (f : Field) → length f.name ≤ NAME_BYTES → length (descriptor f) ≡ DESCRIPTOR
unfolding descriptor
length-descriptor f le =
    omega (arith, length-append (name_part f) (f.kind ∷ (replicate 4 0 ++ (f.width ∷ f.decimals ∷ replicate 14 0))), length-name_part f le)

pub record HasName (f : Field) : Type 0 where
  pub some : 1 ≤ length f.name
  pub short : length f.name ≤ 10
  pub letter : is_ascii_alphabetic (slice_index f.name 0) ≡ true
  pub letters : list_all is_name_char f.name ≡ true

pub has_name_from : (f : Field) → is_name f.name ≡ true → HasName f
has_name_from f h =
    let a = and_parts (is_in_range 1 10 (length f.name)) (is_ascii_alphabetic (slice_index f.name 0) && list_all is_name_char f.name) h in
    let b = and_parts (leb 1 (length f.name)) (leb (length f.name) 10) a.0 in
    let c = and_parts (is_ascii_alphabetic (slice_index f.name 0)) (list_all is_name_char f.name) a.1 in
    record { some = leb-true _ _ b.0; short = leb-true _ _ b.1; letter = c.0; letters = c.1 }

no_zero : (c : ℕ) → is_name_char c ≡ true → eqb c 0 ≡ false
no_zero zero h = absurd cc
no_zero (suc c) h = ne_eqb (suc c) 0 (λ e. absurd (omega arith))

no_zeros : (cs : List ℕ) → list_all is_name_char cs ≡ true → (k : ℕ) → k < length cs → eqb (get_or cs k 0) 0 ≡ false
no_zeros cs h k lt = no_zero _ (true_from_ne_false _ (λ no. true≢false (sym h ∙ list_all_at is_name_char cs k 0 lt no)))

name_again : (f : Field) → HasName f → before_first (λ b. eqb b 0) (name_part f) ≡ f.name
name_again f h =
    let zeros : List ℕ = replicate (NAME_BYTES - length f.name) 0 in
    let inside : length f.name ≤ length (name_part f) = omega (arith, length-append f.name zeros) in
    let ended : eqb (get_or (name_part f) (length f.name) 0) 0 ≡ true =
    rw (get_or-append_right f.name zeros (length f.name) (length f.name) 0 refl (omega arith), get_or-replicate {A = ℕ} (NAME_BYTES - length f.name) (length f.name - length f.name) 0 0 (omega (arith, h.short))) refl in
    let n : position_or_len (λ b. eqb b 0) (name_part f) ≡ length f.name =
    position_or_len_is (λ b. eqb b 0) (name_part f) (length f.name) 0 inside
    (λ k lt. rw (get_or_append_left f.name zeros 0 k lt) (no_zeros f.name h.letters k lt))
    (λ lt. ended) in
    rw (n, take_at f.name zeros (length f.name) refl) refl

pub field_again : (f : Field) → HasName f → field_of (descriptor f) ≡ f
unfolding descriptor
field_again f h =
    let rest : List ℕ = f.kind ∷ (replicate 4 0 ++ (f.width ∷ f.decimals ∷ replicate 14 0)) in
    let len : length (name_part f) ≡ NAME_BYTES = length-name_part f (omega (arith, h.short)) in
    let name : before_first (λ b. eqb b 0) (take NAME_BYTES (name_part f ++ rest)) ≡ f.name = rw (take_at (name_part f) rest NAME_BYTES len) (name_again f h) in
    let kind : get_or (name_part f ++ rest) 11 0 ≡ f.kind = get_or-append_right (name_part f) rest 11 11 0 len (omega arith) in
    let width : get_or (name_part f ++ rest) 16 0 ≡ f.width = get_or-append_right (name_part f) rest 11 16 0 len (omega arith) in
    let decimals : get_or (name_part f ++ rest) 17 0 ≡ f.decimals = get_or-append_right (name_part f) rest 11 17 0 len (omega arith) in
    rw (name, kind, width, decimals) refl

letter_no_end : (cs rest : List ℕ) → 1 ≤ length cs → is_ascii_alphabetic (slice_index cs 0) ≡ true → get_or (cs ++ rest) 0 0 ≢ HEADER_END
letter_no_end [] rest some letter e = absurd (omega arith)
letter_no_end (c ∷ cs) rest some letter e = absurd (true≢false (sym (rw e at letter)))

starts : (f : Field) (rest : List ℕ) → HasName f → get_or (descriptor f ++ rest) 0 0 ≢ HEADER_END
unfolding descriptor
starts f rest h =
    let zeros : List ℕ = replicate (NAME_BYTES - length f.name) 0 in
    let more : List ℕ = f.kind ∷ (replicate 4 0 ++ (f.width ∷ f.decimals ∷ replicate 14 0)) in
    let grouped : ((f.name ++ zeros) ++ more) ++ rest ≡ f.name ++ (zeros ++ (more ++ rest)) = simp append_assoc in
    rw grouped (letter_no_end f.name (zeros ++ (more ++ rest)) h.some h.letter)

pub fields_again : (fs : List Field) → AllByRecursion HasName fs → map field_of (map descriptor fs) ≡ fs
fields_again [] h = refl
fields_again (f ∷ fs) h = rw (field_again f h.0, fields_again fs h.1) refl

pub names_from : (fs : List Field) → AllByRecursion (λ f. is_name f.name ≡ true) fs → AllByRecursion HasName fs
names_from [] h = tt
names_from (f ∷ fs) h = (has_name_from f h.0, names_from fs h.1)

pub descriptors_long : (fs : List Field) → AllByRecursion HasName fs → AllByRecursion (λ f. length (descriptor f) ≡ DESCRIPTOR) fs
descriptors_long [] h = tt
descriptors_long (f ∷ fs) h = (length-descriptor f (omega (arith, h.0.short)), descriptors_long fs h.1)

pub not_end : (fs : List Field) (rest : List ℕ) → AllByRecursion HasName fs → (i : ℕ) → i < length fs → get_or (flat_map descriptor fs ++ rest) (DESCRIPTOR * i) 0 ≢ HEADER_END
not_end [] rest h i lt = absurd (omega arith)
not_end (f ∷ fs) rest h zero lt = rw (append_assoc (descriptor f) (flat_map descriptor fs) rest) (starts f (flat_map descriptor fs ++ rest) h.0)
not_end (f ∷ fs) rest h (suc i) lt =
    let k : DESCRIPTOR * suc i - DESCRIPTOR ≡ DESCRIPTOR * i = omega arith in
    rw (append_assoc (descriptor f) (flat_map descriptor fs) rest, get_or-append_right (descriptor f) (flat_map descriptor fs ++ rest) DESCRIPTOR (DESCRIPTOR * suc i) 0 (length-descriptor f (omega (arith, h.0.short))) (omega arith), k)
    (not_end fs rest h.1 i (omega arith))

-- ---- the flag of a record

pub flag_again : (b : Bool) → eqb (cond b DELETED KEPT) DELETED ≡ b
flag_again true = refl
flag_again false = refl

-- ---- the whole file

pub after_header : (head body more : List ℕ) (m : ℕ) → length head + length body + 1 ≡ m → drop m (head ++ (body ++ HEADER_END ∷ more)) ≡ more
after_header head body more m len =
    let grouped : head ++ (body ++ HEADER_END ∷ more) ≡ (head ++ (body ++ HEADER_END ∷ [])) ++ more =
    sym (append_assoc head (body ++ HEADER_END ∷ []) more ∙ ap (λ (x : List ℕ). head ++ x) (append_assoc body (HEADER_END ∷ []) more)) in
    let long : length (head ++ (body ++ HEADER_END ∷ [])) ≡ m = omega (arith, length-append head (body ++ HEADER_END ∷ []), length-append body (HEADER_END ∷ [])) in
    rw grouped (drop_at (head ++ (body ++ HEADER_END ∷ [])) more m long)

pub end_here : (head body more : List ℕ) (i : ℕ) → length head + length body ≡ i → get_or (head ++ (body ++ HEADER_END ∷ more)) i 0 ≡ HEADER_END
end_here head body more i len =
    rw (← append_assoc head body (HEADER_END ∷ more)) (get_or_at (head ++ body) HEADER_END more 0 i (omega (arith, length-append head body)))

pub not_here : (head tail : List ℕ) (h i : ℕ) → length head ≡ h → get_or tail i 0 ≢ HEADER_END → get_or (head ++ tail) (h + i) 0 ≢ HEADER_END
not_here head tail h i len differs =
    let k : h + i - h ≡ i = omega arith in
    rw (get_or-append_right head tail h (h + i) 0 len (omega arith), k) differs
