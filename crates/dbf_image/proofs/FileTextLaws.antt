-- What the finite map of a store has at each number, where texts of a file stand beside others.
use Rattle.std.proofs.Common.{◌≡◌, ◌≢◌, ℕ, zero, suc, ◌+◌, ◌-◌, ◌<◌, ◌≤◌, Bool, true, false, cond, eqb, List, [], ◌∷◌, ◌++◌, length, drop, Option, Some, None, nat_cmp, nat_eq, refl, ap, sym, ◌∙◌, ⊎_elim, ne_eqb, arith, inl, inr}
use Rattle.std.proofs.lemmas.Bool.{cases_Bool, cases_eq, cases_lt, eqb-true}
use Rattle.std.proofs.lemmas.List.{get_or_past, get_or_append_left, get_or_push, length_push, length-drop, length-take-le}
use Rattle.std.proofs.lemmas.List.Sums.{sum_by-cons}
use Rattle.std.specs.Cmp.{nat_cmp_total}
use Rattle.std.specs.List.{list_any, AllByRecursion}
use Rattle.std.specs.FinMap.{get, insert, retain_keys, empty, same_map, get-empty, nat_cmp-IsAntisymmetric}
use Rattle.dbf_image.specs.declared.memo_store.file_text.FileText.{FileText}
use Rattle.dbf_image.specs.declared.memo_store.file_text.TheConstants.{FILE_TEXTS}
use Rattle.dbf_image.specs.FileTexts.{no_file_text, file_text_at, file_bytes, file_text, with_file_texts, file_texts, blocks_of_file, length_kept, IsInFile, AreBelow, KeepsTexts}
use Rattle.dbf_image.specs.Laws.MemoCallers.{after_put, other_put, each_drop}
use Rattle.dbf_image.specs.MemoChains.{blocks_in}
use Rattle.dbf_image.specs.MemoNumbers.{KeepsMemos}
use Rattle.dbf_image.specs.MemoStore.{Texts, used_blocks}
use Rattle.dbf_image.specs.Store.{text_of, IsMemo}
use Rattle.dbf_image.specs.Table.{is_memo_text}
use Rattle.dbf_image.proofs.MemoNumbers.{put_keeps, memo_got, text_got}
use Rattle.dbf_image.proofs.MemoTotals.{used_insert}

-- ---- number by number

pub get_below : (file : List ℕ) (n : ℕ) (ts : List FileText) (texts : Texts) (q : ℕ) → q < n → get (with_file_texts file n ts texts) q ≡ get texts q
get_below file n [] texts q lt = refl
get_below file n (t ∷ ts) texts q lt =
    let rest = get_below file (suc n) ts texts q (omega (arith, lt)) in
    elim (cases_Bool (eqb t.length 0)) [
      | inl e ↦ rw e rest
      | inr e ↦ rw e (other_put (with_file_texts file (suc n) ts texts) _ n q (file_bytes file t) (λ s. absurd (omega (arith, s, lt))) refl ∙ rest)
    ]

pub get_from : (file : List ℕ) (n : ℕ) (ts : List FileText) (texts : Texts) (i : ℕ) → AreBelow n texts → get (with_file_texts file n ts texts) (n + i) ≡ file_text file (file_text_at ts i)
get_from file n [] texts i below = below (n + i) (omega arith)
get_from file n (t ∷ ts) texts zero below =
    let here : n + 0 ≡ n = omega arith in
    let rest : get (with_file_texts file (suc n) ts texts) n ≡ None = get_below file (suc n) ts texts n (omega arith) ∙ below n (omega arith) in
    rw here (elim (cases_Bool (eqb t.length 0)) [
      | inl e ↦ rw e rest
      | inr e ↦ rw e (after_put (with_file_texts file (suc n) ts texts) _ n (file_bytes file t) refl)
    ])
get_from file n (t ∷ ts) texts (suc i) below =
    let same : n + suc i ≡ suc n + i = omega arith in
    let rest = get_from file (suc n) ts texts i (λ q le. below q (omega (arith, le))) in
    rw same (elim (cases_Bool (eqb t.length 0)) [
      | inl e ↦ rw e rest
      | inr e ↦ rw e (other_put (with_file_texts file (suc n) ts texts) _ n (suc n + i) (file_bytes file t) (λ s. absurd (omega (arith, s))) refl ∙ rest)
    ])

-- at a number that is not below the first
pub get_high : (file : List ℕ) (n : ℕ) (ts : List FileText) (texts : Texts) (q : ℕ) → n ≤ q → AreBelow n texts → get (with_file_texts file n ts texts) q ≡ file_text file (file_text_at ts (q - n))
get_high file n ts texts q le below =
    let is : q ≡ n + (q - n) = omega (arith, le) in
    ap (get (with_file_texts file n ts texts)) is ∙ get_from file n ts texts (q - n) below

pub none_below : (n : ℕ) → AreBelow n empty
none_below n q le = get-empty nat_cmp q

-- two maps are one where they have the same below a number and from there on
same_parts : (n : ℕ) (a b : Texts) → ((q : ℕ) → q < n → get a q ≡ get b q) → ((q : ℕ) → n ≤ q → get a q ≡ get b q) → a ≡ b
same_parts n a b low high = same_map nat_cmp_total nat_cmp-IsAntisymmetric _ _ (λ q. ⊎_elim (low q) (high q) (cases_lt q n))

-- ---- a text is put below

pub below_put : (n : ℕ) (texts : Texts) (q : ℕ) (text : List ℕ) → q < n → AreBelow n texts → AreBelow n (insert texts q text)
below_put n texts q text lt below k le = other_put texts _ q k text (λ s. absurd (omega (arith, s, lt, le))) refl ∙ below k le

both_put : (a b : Texts) (q k : ℕ) (text : List ℕ) → get a k ≡ get b k → get (insert a q text) k ≡ get (insert b q text) k
both_put a b q k text same = ⊎_elim
    (λ e. rw e (after_put a (insert a q text) q text refl ∙ sym (after_put b (insert b q text) q text refl)))
    (λ ne. other_put a (insert a q text) q k text ne refl ∙ same ∙ sym (other_put b (insert b q text) q k text ne refl))
    (cases_eq k q)

pub put_beside : (file : List ℕ) (n : ℕ) (ts : List FileText) (texts : Texts) (q : ℕ) (text : List ℕ) → q < n → AreBelow n texts
    → with_file_texts file n ts (insert texts q text) ≡ insert (with_file_texts file n ts texts) q text
put_beside file n ts texts q text lt below = same_parts n _ _
    (λ k l. get_below file n ts (insert texts q text) k l ∙ both_put texts (with_file_texts file n ts texts) q k text (sym (get_below file n ts texts k l)))
    (λ k le. get_high file n ts (insert texts q text) k le (below_put n texts q text lt below) ∙ sym (get_high file n ts texts k le below)
    ∙ sym (other_put (with_file_texts file n ts texts) (insert (with_file_texts file n ts texts) q text) q k text (λ s. absurd (omega (arith, s, lt, le))) refl))

-- ---- texts are dropped

kept_text : (file : List ℕ) (t u : FileText) (b : Bool) → u.start ≡ t.start → u.length ≡ length_kept b t.length → file_text file u ≡ cond b (file_text file t) None
kept_text file t u true start long = rw (start, long) refl
kept_text file t u false start long = rw long refl

pub never : (b : Bool) → cond {A = Option (List ℕ)} b None None ≡ None
never true = refl
never false = refl

pub below_drop : (n : ℕ) (texts left : Texts) (numbers : List ℕ) → left ≡ retain_keys texts (λ q. list_any (nat_eq q) numbers) → AreBelow n texts → AreBelow n left
below_drop n texts left numbers e below q le = each_drop texts left numbers q e ∙ rw (below q le) (never (list_any (nat_eq q) numbers))

pub drop_beside : (file : List ℕ) (ts us : List FileText) (texts left : Texts) (numbers : List ℕ) → AreBelow FILE_TEXTS texts → KeepsTexts ts us numbers
    → left ≡ retain_keys texts (λ q. list_any (nat_eq q) numbers)
    → with_file_texts file FILE_TEXTS us left ≡ retain_keys (with_file_texts file FILE_TEXTS ts texts) (λ q. list_any (nat_eq q) numbers)
drop_beside file ts us texts left numbers below keeps e = same_parts FILE_TEXTS _ _
    (λ q lt. get_below file FILE_TEXTS us left q lt ∙ each_drop texts left numbers q e
    ∙ ap (λ (o : Option (List ℕ)). cond (list_any (nat_eq q) numbers) o None) (sym (get_below file FILE_TEXTS ts texts q lt))
    ∙ sym (each_drop (with_file_texts file FILE_TEXTS ts texts) _ numbers q refl))
    (λ q le.
    let i : ℕ = q - FILE_TEXTS in
    let is : FILE_TEXTS + i ≡ q = omega (arith, le) in
    get_high file FILE_TEXTS us left q le (below_drop FILE_TEXTS texts left numbers e below)
    ∙ kept_text file (file_text_at ts i) (file_text_at us i) (list_any (nat_eq q) numbers) (keeps.starts i) (rw is at (keeps.lengths i))
    ∙ ap (λ (o : Option (List ℕ)). cond (list_any (nat_eq q) numbers) o None) (sym (get_high file FILE_TEXTS ts texts q le below))
    ∙ sym (each_drop (with_file_texts file FILE_TEXTS ts texts) _ numbers q refl))

-- ---- how many blocks the texts take

pub used_beside : (file : List ℕ) (n : ℕ) (ts : List FileText) (texts : Texts) → AllByRecursion (IsInFile file) ts → AreBelow n texts
    → used_blocks (with_file_texts file n ts texts) ≡ blocks_of_file ts + used_blocks texts
used_beside file n [] texts inside below = omega arith
used_beside file n (t ∷ ts) texts inside below =
    let rest = used_beside file (suc n) ts texts inside.1 (λ q le. below q (omega (arith, le))) in
    let sum = sum_by-cons (λ (x : FileText). blocks_in x.length) t ts in
    let fresh : get (with_file_texts file (suc n) ts texts) n ≡ None = get_below file (suc n) ts texts n (omega arith) ∙ below n (omega arith) in
    elim (cases_Bool (eqb t.length 0)) [
      | inl e ↦
          let nothing : blocks_in t.length ≡ 0 = ap blocks_in (eqb-true t.length 0 e) in
          rw e (omega (arith, rest, sum, nothing))
      | inr e ↦
          let long : length (file_bytes file t) ≡ t.length = length-take-le t.length (drop t.start file) (omega (arith, inside.0, length-drop t.start file)) in
          let more = used_insert (with_file_texts file (suc n) ts texts) n (file_bytes file t) fresh in
          rw e (omega (arith, more, rest, sum, ap blocks_in long))
    ]

-- ---- one more text of the file

at_push : (ts : List FileText) (t : FileText) (i : ℕ) → i ≢ length ts → file_text_at (ts ++ t ∷ []) i ≡ file_text_at ts i
at_push ts t i ne = ⊎_elim
    (λ lt. get_or_append_left ts (t ∷ []) no_file_text i lt)
    (λ le. get_or_past (ts ++ t ∷ []) i no_file_text (omega (arith, le, ne, length_push ts t)) ∙ sym (get_or_past ts i no_file_text le))
    (cases_lt i (length ts))

no_text_past : (file : List ℕ) (ts : List FileText) (i : ℕ) → length ts ≤ i → file_text file (file_text_at ts i) ≡ None
no_text_past file ts i le = rw (get_or_past ts i no_file_text le) refl

some_text_is : (file : List ℕ) (t : FileText) → t.length ≢ 0 → file_text file t ≡ Some (file_bytes file t)
some_text_is file t some = rw (ne_eqb t.length 0 some) refl

pub push_fresh : (file : List ℕ) (ts : List FileText) → get (file_texts file ts) (FILE_TEXTS + length ts) ≡ None
push_fresh file ts = get_from file FILE_TEXTS ts empty (length ts) (none_below FILE_TEXTS) ∙ no_text_past file ts (length ts) (omega arith)

pub push_is : (file : List ℕ) (ts : List FileText) (t : FileText) → t.length ≢ 0
    → file_texts file (ts ++ t ∷ []) ≡ insert (file_texts file ts) (FILE_TEXTS + length ts) (file_bytes file t)
push_is file ts t some =
    let k : ℕ = FILE_TEXTS + length ts in
    let old = file_texts file ts in
    same_parts FILE_TEXTS _ _
    (λ q lt. get_below file FILE_TEXTS (ts ++ t ∷ []) empty q lt ∙ sym (get_below file FILE_TEXTS ts empty q lt)
    ∙ sym (other_put old (insert old k (file_bytes file t)) k q (file_bytes file t) (λ s. absurd (omega (arith, s, lt))) refl))
    (λ q le. get_high file FILE_TEXTS (ts ++ t ∷ []) empty q le (none_below FILE_TEXTS) ∙ ⊎_elim
    (λ (e : q ≡ k).
    let i : q - FILE_TEXTS ≡ length ts = omega (arith, e) in
    ap (λ (j : ℕ). file_text file (file_text_at (ts ++ t ∷ []) j)) i
    ∙ ap (file_text file) (get_or_push ts t no_file_text (length ts) refl) ∙ some_text_is file t some
    ∙ sym (ap (get (insert old k (file_bytes file t))) e ∙ after_put old (insert old k (file_bytes file t)) k (file_bytes file t) refl))
    (λ (ne : q ≢ k).
    ap (file_text file) (at_push ts t (q - FILE_TEXTS) (λ s. ne (omega (arith, s, le))))
    ∙ sym (get_high file FILE_TEXTS ts empty q le (none_below FILE_TEXTS))
    ∙ sym (other_put old (insert old k (file_bytes file t)) k q (file_bytes file t) ne refl))
    (cases_eq q k))

pub push_keeps : (file : List ℕ) (ts : List FileText) (t : FileText) → t.length ≢ 0 → KeepsMemos (file_texts file ts) (file_texts file (ts ++ t ∷ []))
push_keeps file ts t some = put_keeps (file_texts file ts) (file_texts file (ts ++ t ∷ [])) (FILE_TEXTS + length ts) (file_bytes file t) (push_fresh file ts) (push_is file ts t some)

pub keeps_itself : (texts : Texts) → KeepsMemos texts texts
keeps_itself texts number m = (m, refl)

pub push_memo : (file : List ℕ) (ts : List FileText) (t : FileText) → t.length ≢ 0 → is_memo_text (file_bytes file t) ≡ true
    → IsMemo (file_texts file (ts ++ t ∷ [])) (FILE_TEXTS + length ts)
push_memo file ts t some may =
    memo_got (file_texts file (ts ++ t ∷ [])) (FILE_TEXTS + length ts) (file_bytes file t) (omega arith)
    (after_put (file_texts file ts) (file_texts file (ts ++ t ∷ [])) (FILE_TEXTS + length ts) (file_bytes file t) (push_is file ts t some)) may

pub push_text : (file : List ℕ) (ts : List FileText) (t : FileText) → t.length ≢ 0 → text_of (file_texts file (ts ++ t ∷ [])) (FILE_TEXTS + length ts) ≡ file_bytes file t
push_text file ts t some =
    text_got (file_texts file (ts ++ t ∷ [])) (FILE_TEXTS + length ts) (file_bytes file t) (omega arith)
    (after_put (file_texts file ts) (file_texts file (ts ++ t ∷ [])) (FILE_TEXTS + length ts) (file_bytes file t) (push_is file ts t some))
