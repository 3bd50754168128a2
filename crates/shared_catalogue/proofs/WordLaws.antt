-- Rows and their words.
use Rattle.std.proofs.Common.{◌≡◌, ℕ, suc, ◌+◌, ◌-◌, ◌%◌, ◌<◌, List, [], ◌∷◌, ◌++◌, length, map, replicate, set, get_or, take, refl, ap, sym, subst, ◌∙◌, arith}
use Rattle.std.specs.List.{AllByRecursion}
use Rattle.std.proofs.Math.Seq.{set-append_seam}
use Rattle.std.proofs.lemmas.List.{append_assoc, length-map, map-append, take_more}
use Rattle.ndx_index.specs.Laws.Counting.{length-counted}
use Rattle.ndx_index.specs.Places.{counted}
use Rattle.catalogue_core.specs.declared.status.StatusRow.{StatusRow}
use Rattle.catalogue_core.specs.declared.status.TableStatus.{TableStatus}
use Rattle.catalogue_core.specs.Status.{row_words, words_of}
use Rattle.shared_catalogue.specs.RowLaws.{counted-push}
use Rattle.shared_catalogue.specs.RowWords.{status_in, row_of_words, u32_count, IsSmallStatus, IsSmallRow}
use Rattle.shared_catalogue.specs.StatusRows.{opening_row}

-- one table more is read
pub tables_more : (f : ℕ → TableStatus) (i : ℕ) (none : TableStatus) (tables : List TableStatus) → i < 10
    → tables ≡ map f (counted 1 i) ++ replicate (10 - i) none → set tables i (f (i + 1)) ≡ map f (counted 1 (i + 1)) ++ replicate (10 - (i + 1)) none
tables_more f i none tables low is =
    let front = map f (counted 1 i) in
    let rest = 10 - (i + 1) in
    let long : length front ≡ i = length-map (counted 1 i) f ∙ length-counted i 1 in
    let zeros : 10 - i ≡ suc rest = omega arith in
    let next : 1 + i ≡ i + 1 = omega arith in
    let same : i + 1 ≡ suc i = omega arith in
    let more : map f (counted 1 (i + 1)) ≡ front ++ f (i + 1) ∷ [] =
    ap (λ n. map f (counted 1 n)) same ∙ ap (map f) (counted-push i 1) ∙ map-append f (counted 1 i) ((1 + i) ∷ []) ∙ ap (λ n. front ++ f n ∷ []) next in
    ap (λ (l : List TableStatus). set l i (f (i + 1))) (is ∙ ap (λ n. front ++ replicate n none) zeros)
    ∙ subst (λ n. set (front ++ replicate (suc rest) none) n (f (i + 1)) ≡ front ++ f (i + 1) ∷ replicate rest none) long (set-append_seam front none (replicate rest none) (f (i + 1)))
    ∙ sym (append_assoc front (f (i + 1) ∷ []) (replicate rest none))
    ∙ ap (λ (l : List TableStatus). l ++ replicate rest none) (sym more)

small_mod : (n : ℕ) → n < u32_count → n % u32_count ≡ n
small_mod n h = omega arith

table_back : (t : TableStatus) → IsSmallStatus t → ◌≡◌ {A = TableStatus} (record { holder = t.holder % u32_count; record_locks = t.record_locks % u32_count }) t
table_back t s = let a = small_mod t.holder s.0 in let b = small_mod t.record_locks s.1 in λ i. record { holder = a i; record_locks = b i }

-- the tables of a row are read back from its words
tables_back : (a b c : ℕ) (ts : List TableStatus) → length ts ≡ 10 → AllByRecursion IsSmallStatus ts → map (status_in (a ∷ b ∷ c ∷ words_of ts)) (counted 1 10) ≡ ts
tables_back a b c (t1 ∷ t2 ∷ t3 ∷ t4 ∷ t5 ∷ t6 ∷ t7 ∷ t8 ∷ t9 ∷ t10 ∷ []) e s =
    let e1 = table_back t1 s.0 in
    let e2 = table_back t2 s.1.0 in
    let e3 = table_back t3 s.1.1.0 in
    let e4 = table_back t4 s.1.1.1.0 in
    let e5 = table_back t5 s.1.1.1.1.0 in
    let e6 = table_back t6 s.1.1.1.1.1.0 in
    let e7 = table_back t7 s.1.1.1.1.1.1.0 in
    let e8 = table_back t8 s.1.1.1.1.1.1.1.0 in
    let e9 = table_back t9 s.1.1.1.1.1.1.1.1.0 in
    let e10 = table_back t10 s.1.1.1.1.1.1.1.1.1.0 in
    λ i. e1 i ∷ e2 i ∷ e3 i ∷ e4 i ∷ e5 i ∷ e6 i ∷ e7 i ∷ e8 i ∷ e9 i ∷ e10 i ∷ []
tables_back a b c _ e s = absurd (omega arith)

-- a row is read back from its words
pub read_back : (r : StatusRow) → IsSmallRow r → row_of_words (row_words r) ≡ r
read_back r s =
    let a = small_mod r.last_station s.station in
    let b = small_mod r.last_answer s.answer in
    let d = tables_back r.journal_length r.last_station r.last_answer r.tables s.ten s.each in
    λ i. record { journal_length = r.journal_length; last_station = a i; last_answer = b i; tables = d i }

-- the tables up to now are small, and so is one more
pub small_more : (ts : List TableStatus) (i : ℕ) (t : TableStatus) → i < length ts → AllByRecursion IsSmallStatus (take i ts) → IsSmallStatus (get_or ts i t) → AllByRecursion IsSmallStatus (take (i + 1) ts)
small_more ts i t low all here = subst (AllByRecursion IsSmallStatus) (sym (take_more ts i t low)) (snoc (take i ts) (get_or ts i t) all here)
  where
    snoc : (xs : List TableStatus) (x : TableStatus) → AllByRecursion IsSmallStatus xs → IsSmallStatus x → AllByRecursion IsSmallStatus (xs ++ x ∷ [])
    snoc [] x all here = (here, tt)
    snoc (y ∷ ys) x all here = (all.0, snoc ys x all.1 here)

-- 23 zeros are the opening row
pub zeros_read : row_of_words (replicate 23 0) ≡ opening_row
zeros_read = refl
