-- The widths of columns: of one more field, of one more record, and of the same records in another order.
use Rattle.std.proofs.Common.{◌≡◌, ℕ, zero, suc, ◌+◌, ◌<◌, ◌≤◌, Bool, true, false, not, ◌&&◌, ◌==◌, List, [], ◌∷◌, ◌++◌, Option, length, get_or, take, drop, set, max, refl, sym, ap, subst, ◌∙◌, arith, append_assoc, if◌then◌else◌}
use Rattle.std.proofs.Math.Nat.{le-max_left, le-max_right, max-le}
use Rattle.std.proofs.Math.Seq.{get_or-append_seam, set-append_seam}
use Rattle.std.proofs.lemmas.List.{append-nil, drop_all, drop_more, length-take-le, take_all, take_more}
use Rattle.std.proofs.lemmas.List.Sums.{fold-append}
use Rattle.std.specs.List.{Contains, fold}
use Rattle.dbf_fields.specs.declared.field.Field.{Field}
use Rattle.dbf_fields.specs.declared.format.TheConstants.{NUMBER}
use Rattle.dbf_image.specs.Table.{Table}
use Rattle.table_text.specs.declared.memo_form.MemoForm.{MemoForm}
use Rattle.table_text.specs.Columns.{cell_shown, column_width, filled_width, widths_from}
use Rattle.table_text.proofs.SelectedLaws.{contained-later}

-- ---- one more field

pub widths-append : (table : Table) (shown : List ℕ) (memos : MemoForm) (index : ℕ) (fs gs : List Field)
    → widths_from table shown memos index (fs ++ gs) ≡ widths_from table shown memos index fs ++ widths_from table shown memos (index + length fs) gs
widths-append table shown memos index [] gs = ap (λ (i : ℕ). widths_from table shown memos i gs) (omega arith)
widths-append table shown memos index (f ∷ fs) gs =
    let more : (index + 1) + length fs ≡ index + length (f ∷ fs) = omega arith in
    ap (λ (ws : List ℕ). filled_width table shown memos index f ∷ ws)
    (widths-append table shown memos (index + 1) fs gs
    ∙ ap (λ (i : ℕ). widths_from table shown memos (index + 1) fs ++ widths_from table shown memos i gs) more)

pub length-widths : (table : Table) (shown : List ℕ) (memos : MemoForm) (index : ℕ) (fs : List Field) → length (widths_from table shown memos index fs) ≡ length fs
length-widths table shown memos index [] = refl
length-widths table shown memos index (f ∷ fs) = ap suc (length-widths table shown memos (index + 1) fs)

-- the widths for the records that are shown now, of the fields before this one, and those for the records before, of the others
abbrev pub widths_at : Table → List ℕ → List ℕ → MemoForm → ℕ → List Field → List ℕ
widths_at table now before memos index fs =
    widths_from table now memos 0 (take index fs) ++ widths_from table before memos index (drop index fs)

front-next : (table : Table) (shown : List ℕ) (memos : MemoForm) (i : ℕ) (f : Field) (fs : List Field) → i < length fs → f ≡ get_or fs i f
    → widths_from table shown memos 0 (take (i + 1) fs) ≡ widths_from table shown memos 0 (take i fs) ++ filled_width table shown memos i f ∷ []
front-next table shown memos i f fs lt is =
    let long : 0 + length (take i fs) ≡ i = omega (arith, length-take-le i fs (omega arith)) in
    ap (widths_from table shown memos 0) (take_more fs i f lt ∙ ap (λ (g : Field). take i fs ++ g ∷ []) (sym is))
    ∙ widths-append table shown memos 0 (take i fs) (f ∷ [])
    ∙ ap (λ (k : ℕ). widths_from table shown memos 0 (take i fs) ++ widths_from table shown memos k (f ∷ [])) long

pub rest-next : (table : Table) (shown : List ℕ) (memos : MemoForm) (i : ℕ) (f : Field) (fs : List Field) → i < length fs → f ≡ get_or fs i f
    → widths_from table shown memos i (drop i fs) ≡ filled_width table shown memos i f ∷ widths_from table shown memos (i + 1) (drop (i + 1) fs)
rest-next table shown memos i f fs lt is =
    ap (widths_from table shown memos i) (drop_more fs i f lt ∙ ap (λ (g : Field). g ∷ drop (i + 1) fs) (sym is))

long-front : (table : Table) (shown : List ℕ) (memos : MemoForm) (i : ℕ) (fs : List Field) → i < length fs → length (widths_from table shown memos 0 (take i fs)) ≡ i
long-front table shown memos i fs lt = length-widths table shown memos 0 (take i fs) ∙ length-take-le i fs (omega arith)

-- the width of the field is still the one before
pub width-before : (table : Table) (now before : List ℕ) (memos : MemoForm) (i : ℕ) (f : Field) (fs : List Field) (ws : List ℕ) (d : ℕ) → i < length fs → f ≡ get_or fs i f
    → ws ≡ widths_at table now before memos i fs → get_or ws i d ≡ filled_width table before memos i f
width-before table now before memos i f fs ws d lt is whole =
    let front = widths_from table now memos 0 (take i fs) in
    let rest = widths_from table before memos (i + 1) (drop (i + 1) fs) in
    let old = filled_width table before memos i f in
    let parts : ws ≡ front ++ old ∷ rest = whole ∙ ap (λ (l : List ℕ). front ++ l) (rest-next table before memos i f fs lt is) in
    ap (λ (l : List ℕ). get_or l i d) parts
    ∙ ap (λ (k : ℕ). get_or (front ++ old ∷ rest) k d) (sym (long-front table now memos i fs lt))
    ∙ get_or-append_seam front old rest d

-- once it is the one for the records that are shown now, the next field follows
pub width-set : (table : Table) (now before : List ℕ) (memos : MemoForm) (i : ℕ) (f : Field) (fs : List Field) (ws : List ℕ) (width : ℕ)
    → i < length fs → f ≡ get_or fs i f → ws ≡ widths_at table now before memos i fs → width ≡ filled_width table now memos i f
    → set ws i width ≡ widths_at table now before memos (i + 1) fs
width-set table now before memos i f fs ws width lt is whole new =
    let front = widths_from table now memos 0 (take i fs) in
    let rest = widths_from table before memos (i + 1) (drop (i + 1) fs) in
    let old = filled_width table before memos i f in
    let parts : ws ≡ front ++ old ∷ rest = whole ∙ ap (λ (l : List ℕ). front ++ l) (rest-next table before memos i f fs lt is) in
    ap (λ (l : List ℕ). set l i width) parts
    ∙ ap (λ (k : ℕ). set (front ++ old ∷ rest) k width) (sym (long-front table now memos i fs lt))
    ∙ set-append_seam front old rest width
    ∙ ap (λ (w : ℕ). front ++ w ∷ rest) new
    ∙ sym (append_assoc front (filled_width table now memos i f ∷ []) rest)
    ∙ ap (λ (l : List ℕ). l ++ rest) (sym (front-next table now memos i f fs lt is))

pub width-kept : (table : Table) (now before : List ℕ) (memos : MemoForm) (i : ℕ) (f : Field) (fs : List Field) (ws : List ℕ)
    → i < length fs → f ≡ get_or fs i f → ws ≡ widths_at table now before memos i fs → filled_width table before memos i f ≡ filled_width table now memos i f
    → ws ≡ widths_at table now before memos (i + 1) fs
width-kept table now before memos i f fs ws lt is whole same =
    let front = widths_from table now memos 0 (take i fs) in
    let rest = widths_from table before memos (i + 1) (drop (i + 1) fs) in
    whole
    ∙ ap (λ (l : List ℕ). front ++ l) (rest-next table before memos i f fs lt is)
    ∙ ap (λ (w : ℕ). front ++ w ∷ rest) same
    ∙ sym (append_assoc front (filled_width table now memos i f ∷ []) rest)
    ∙ ap (λ (l : List ℕ). l ++ rest) (sym (front-next table now memos i f fs lt is))

-- after the last field all are the ones for the records that are shown now
pub widths-all : (table : Table) (now before : List ℕ) (memos : MemoForm) (i : ℕ) (fs : List Field) (ws : List ℕ) → length fs ≤ i
    → ws ≡ widths_at table now before memos i fs → ws ≡ widths_from table now memos 0 fs
widths-all table now before memos i fs ws all whole =
    whole
    ∙ ap (λ (gs : List Field). widths_from table now memos 0 gs ++ widths_from table before memos i (drop i fs)) (take_all i fs all)
    ∙ ap (λ (gs : List Field). widths_from table now memos 0 fs ++ widths_from table before memos i gs) (drop_all i fs all)
    ∙ append-nil (widths_from table now memos 0 fs)

-- ---- one more record

-- the last column isn't filled up, where its texts stand at the left
abbrev pub unfilled : Table → ℕ → ℕ → Bool
unfilled table index kind = (index + 1 == length table.schema) && not (kind == NUMBER)

not-true : (b : Bool) → true ≡ not b → b ≡ false
not-true true is = is
not-true false is = refl

not-false : (b : Bool) → false ≡ not b → b ≡ true
not-false true is = refl
not-false false is = is

pub unfilled-same : (table : Table) (shown : List ℕ) (number : ℕ) (memos : MemoForm) (index : ℕ) (f : Field) (width : ℕ) → false ≡ not (unfilled table index f.kind)
    → width ≡ filled_width table shown memos index f → width ≡ filled_width table (shown ++ number ∷ []) memos index f
unfilled-same table shown number memos index f width isnt was =
    let is = not-false (unfilled table index f.kind) isnt in
    let none : filled_width table shown memos index f ≡ filled_width table (shown ++ number ∷ []) memos index f = rw is refl in
    was ∙ none

pub filled-wider : (table : Table) (shown : List ℕ) (number : ℕ) (memos : MemoForm) (index : ℕ) (f : Field) (width long wide : ℕ) → true ≡ not (unfilled table index f.kind)
    → long ≡ length (cell_shown table memos number index f) → wide ≡ max width long
    → width ≡ filled_width table shown memos index f → wide ≡ filled_width table (shown ++ number ∷ []) memos index f
filled-wider table shown number memos index f width long wide is text greater was =
    let isnt = not-true (unfilled table index f.kind) is in
    let one : filled_width table shown memos index f ≡ column_width table shown memos index f = rw isnt refl in
    let more : filled_width table (shown ++ number ∷ []) memos index f ≡ column_width table (shown ++ number ∷ []) memos index f = rw isnt refl in
    let next : column_width table (shown ++ number ∷ []) memos index f ≡ max (column_width table shown memos index f) (length (cell_shown table memos number index f)) =
    fold-append (λ (w : ℕ) (n : ℕ). max w (length (cell_shown table memos n index f))) (length f.name) shown (number ∷ []) in
    greater
    ∙ ap (λ (w : ℕ). max w long) (was ∙ one)
    ∙ ap (max (column_width table shown memos index f)) text
    ∙ sym next ∙ sym more

-- ---- the same records in another order

-- the greatest of a number and of what is measured of each
abbrev greatest : (ℕ → ℕ) → ℕ → List ℕ → ℕ
greatest g w xs = fold (λ width n. max width (g n)) w xs

greatest-start : (g : ℕ → ℕ) (w : ℕ) (xs : List ℕ) → w ≤ greatest g w xs
greatest-start g w [] = omega arith
greatest-start g w (x ∷ xs) = omega (arith, le-max_left w (g x), greatest-start g (max w (g x)) xs)

greatest-each : (g : ℕ → ℕ) (w : ℕ) (xs : List ℕ) (n : ℕ) → Contains xs n → g n ≤ greatest g w xs
greatest-each g w [] n (k, lt, is) = absurd (omega (arith, lt))
greatest-each g w (x ∷ xs) n (zero, lt, is) =
    let here : g x ≤ greatest g w (x ∷ xs) = omega (arith, le-max_right w (g x), greatest-start g (max w (g x)) xs) in
    subst (λ (m : ℕ). g m ≤ greatest g w (x ∷ xs)) is here
greatest-each g w (x ∷ xs) n (suc k, lt, is) = greatest-each g (max w (g x)) xs n (k, omega (arith, lt), is)

greatest-most : (g : ℕ → ℕ) (w m : ℕ) (xs : List ℕ) → w ≤ m → ((n : ℕ) → Contains xs n → g n ≤ m) → greatest g w xs ≤ m
greatest-most g w m [] least each = least
greatest-most g w m (x ∷ xs) least each =
    greatest-most g (max w (g x)) m xs (max-le least (each x (0, omega arith, refl))) (λ n there. each n (contained-later x xs n there))

greatest-alike : (g : ℕ → ℕ) (w : ℕ) (xs ys : List ℕ) → ((n : ℕ) → Contains xs n → Contains ys n) → ((n : ℕ) → Contains ys n → Contains xs n)
    → greatest g w xs ≡ greatest g w ys
greatest-alike g w xs ys forth back =
    let most : greatest g w xs ≤ greatest g w ys =
    greatest-most g w (greatest g w ys) xs (greatest-start g w ys) (λ n there. greatest-each g w ys n (forth n there)) in
    let least : greatest g w ys ≤ greatest g w xs =
    greatest-most g w (greatest g w xs) ys (greatest-start g w xs) (λ n there. greatest-each g w xs n (back n there)) in
    omega (arith, most, least)

-- the widths are the same for any two lists of the same records
pub widths-alike : (table : Table) (xs ys : List ℕ) (memos : MemoForm) (index : ℕ) (fs : List Field)
    → ((n : ℕ) → Contains xs n → Contains ys n) → ((n : ℕ) → Contains ys n → Contains xs n)
    → widths_from table xs memos index fs ≡ widths_from table ys memos index fs
widths-alike table xs ys memos index [] forth back = refl
widths-alike table xs ys memos index (f ∷ fs) forth back =
    let wide : column_width table xs memos index f ≡ column_width table ys memos index f =
    greatest-alike (λ (n : ℕ). length (cell_shown table memos n index f)) (length f.name) xs ys forth back in
    let rest = widths_from table xs memos (index + 1) fs in
    ap (λ (width : ℕ). (if unfilled table index f.kind then 0 else width) ∷ rest) wide
    ∙ ap (λ (l : List ℕ). filled_width table ys memos index f ∷ l) (widths-alike table xs ys memos (index + 1) fs forth back)
