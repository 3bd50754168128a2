-- Each kind of step on the board keeps its rule.
use Rattle.std.proofs.Common.{◌≡◌, ◌≢◌, ℕ, zero, suc, ◌+◌, ◌<◌, List, [], ◌∷◌, ◌++◌, length, replicate, set, true, false, true≢false, refl, sym, ap, ◌∙◌, subst, ⊎_elim, arith, length-append}
use mathlib.Core.Option.{some, some-ne-none, some-injective}
use lib.ListN.{get_elem?}
use Rattle.crossbeam_utils.specs.Register.{Turns, Forks, Merges}
use Rattle.atomic_table.proofs.Lists.{at_set, at_snoc, set_again}
use Rattle.catalogue_core.specs.declared.entry.Entry.{Entry}
use Rattle.shared_catalogue.specs.declared.board.Known.{Known}
use Rattle.shared_catalogue.specs.declared.board.View.{View}
use Rattle.shared_catalogue.specs.RowWords.{row_of_words}
use Rattle.shared_catalogue.specs.StatusRows.{opening_row}
use Rattle.shared_catalogue.specs.Board.{known_of, with_next, IsPartOf, writer_of, first_view, spent_view, copied_view, answered_view, noting_view, told_view, IsViewOf, IsBoard, IsSwapOf, IsLoadOf, IsWriterLoadOf}
use Rattle.shared_catalogue.proofs.KnownLaws.{part_self, part_none, part_next, part_more}
use Rattle.shared_catalogue.proofs.RowListLaws.{last_row-push, numbered-push}

off : false ≡ true → ⊥
off e = true≢false (sym e)

-- a view that doesn't write, of which what it knows and what it has noted are parts of all
reads_of : (writer : ℕ) (all : Known) (number : ℕ) (v : View) → v.writes ≡ false → IsPartOf v.known all → IsPartOf v.noted all → IsViewOf writer all number v
reads_of writer all number v reads known noted = record { whole = λ k. absurd (off (sym reads ∙ k)); known = known; noted = noted }

-- what one view becomes, and that the others are still views of all, is what there is to show
views_set : (writer : ℕ) (all : Known) (views : List View) (number : ℕ) (w : View)
    → ((j : ℕ) (u : View) → j ≢ number → get_elem? views j ≡ some u → IsViewOf writer all j u) → IsViewOf writer all number w
    → (j : ℕ) (u : View) → get_elem? (set views number w) j ≡ some u → IsViewOf writer all j u
views_set writer all views number w others mine j u e =
    ⊎_elim
    (λ (x : (j ≡ number) × (w ≡ u)). subst (λ (y : ℕ × View). IsViewOf writer all y.0 y.1) (λ i. (sym x.0 i, x.1 i)) mine)
    (λ (x : (j ≢ number) × (get_elem? views j ≡ some u)). others j u x.0 x.1)
    (at_set views number j w u e)

-- making the board, with 23 zeros in the cell
pub begins : IsBoard (replicate 23 0) (first_view ∷ [])
begins = record { writer = 0; all = known_of (opening_row ∷ []) []; shows = (omega arith, refl, (refl, tt)); each = one }
  where
    opening : Known
    opening = known_of (opening_row ∷ []) []

    one : (number : ℕ) (v : View) → get_elem? (first_view ∷ []) number ≡ some v → IsViewOf 0 opening number v
    one zero v e =
        let first : IsViewOf 0 opening 0 first_view = record { whole = λ _. (refl, refl); known = part_self opening; noted = part_none opening } in
        subst (IsViewOf 0 opening 0) (some-injective _ _ e) first
    one (suc number) v e = absurd (some-ne-none v (sym e))

-- the writer's swap to the words of the row of the next entry
pub swaps : (next : Entry) (number : ℕ) (v : View) (words : List ℕ) → v.writes ≡ true → (row_of_words words).journal_length ≡ length v.known.rows → Turns IsBoard number v (λ _. words) (IsSwapOf next)
swaps next number v words writes long_enough cell views h at =
    let new = row_of_words words in
    let all = h.all in
    let mine = h.each number v at in
    let whole = mine.whole writes in
    let w = writer_of (with_next v.known new next) in
    let more = with_next all new next in
    let same : with_next v.known new next ≡ more = ap (λ (k : Known). with_next k new next) whole.1 in
    let some_row : 0 < length more.rows = omega (arith, length-append all.rows (new ∷ [])) in
    let long : new.journal_length ≡ length all.rows = long_enough ∙ ap (λ (k : Known). length k.rows) whole.1 in
    let others : (j : ℕ) (u : View) → j ≢ number → get_elem? views j ≡ some u → IsViewOf h.writer more j u = λ j u apart e.
    let f = h.each j u e in
    record { whole = λ k. absurd (apart ((f.whole k).0 ∙ sym whole.0)); known = part_next u.known all new next f.known; noted = part_next u.noted all new next f.noted } in
    let own : IsViewOf h.writer more number w = record { whole = λ _. (whole.0, same); known = subst (λ (k : Known). IsPartOf k more) (sym same) (part_self more); noted = part_none more } in (
      w,
      record { writer = h.writer; all = more; shows = (some_row, last_row-push all.rows new, numbered-push all.rows new h.shows.2 long); each = views_set h.writer more views number w others own },
      (subst (IsPartOf v.noted) (sym whole.1) mine.noted, refl),
    )

-- a load by one that reads
pub loads : (number : ℕ) (v : View) → v.writes ≡ false → Turns IsBoard number v (λ x. x) IsLoadOf
loads number v reads cell views h at =
    let mine = h.each number v at in
    let all = h.all in
    let w : View = record { writes = false; known = all; noted = v.noted; receipts = v.receipts; loads = v.loads + 1 } in (
      w,
      record { writer = h.writer; all = all; shows = h.shows; each = views_set h.writer all views number w (λ j u apart e. h.each j u e) (reads_of h.writer all number w refl (part_self all) mine.noted) },
      record { later = mine.known; shows = h.shows; reads = refl; receipts = refl; loads = refl },
    )

-- a load by the writer
pub writer_loads : (number : ℕ) (v : View) → v.writes ≡ true → Turns IsBoard number v (λ x. x) IsWriterLoadOf
writer_loads number v writes cell views h at =
    let mine = h.each number v at in
    let whole = mine.whole writes in
    let own : IsViewOf h.writer h.all number (writer_of v.known) = record { whole = λ _. whole; known = mine.known; noted = part_none h.all } in (
      writer_of v.known,
      record { writer = h.writer; all = h.all; shows = h.shows; each = views_set h.writer h.all views number (writer_of v.known) (λ j u apart e. h.each j u e) own },
      (subst (IsPartOf v.noted) (sym whole.1) mine.noted, refl),
    )

-- a split, which leaves the pass's own view
pub copies : (number : ℕ) (v : View) → Forks IsBoard number v v (copied_view v)
copies number v cell views h at =
    let mine = h.each number v at in
    let all = h.all in
    let each : (j : ℕ) (u : View) → get_elem? (set views number v ++ copied_view v ∷ []) j ≡ some u → IsViewOf h.writer all j u = λ j u e.
    ⊎_elim
    (λ was. h.each j u (subst (λ l. get_elem? l j ≡ some u) (set_again views number v at) was))
    (λ (same : copied_view v ≡ u). subst (IsViewOf h.writer all j) same (reads_of h.writer all j (copied_view v) refl mine.known (part_none all)))
    (at_snoc (set views number v) (copied_view v) u j e) in
    record { writer = h.writer; all = all; shows = h.shows; each = each }

-- a join: it keeps the rule where the view that takes the other in is still a view of all
takes_in : (number : ℕ) (v : View) (other : ℕ) (u w : View) → ((writer : ℕ) (all : Known) → IsViewOf writer all number v → IsViewOf writer all other u → IsViewOf writer all number w) → Merges IsBoard number v other u w spent_view
takes_in number v other u w becomes cell views h at apart there =
    let all = h.all in
    let mine = h.each number v at in
    let theirs = ⊎_elim (λ (t : (other ≡ number) × (w ≡ u)). absurd (apart t.0)) (λ (t : (other ≢ number) × (get_elem? views other ≡ some u)). h.each other u t.1) (at_set views number other w u there) in
    let others : (j : ℕ) (z : View) → j ≢ other → get_elem? (set views number w) j ≡ some z → IsViewOf h.writer all j z = λ j z _ e. views_set h.writer all views number w (λ i y _ e'. h.each i y e') (becomes h.writer all mine theirs) j z e in
    record { writer = h.writer; all = all; shows = h.shows; each = views_set h.writer all (set views number w) other spent_view others (reads_of h.writer all other spent_view refl (part_none all) (part_none all)) }

-- a join into the pass of a seat that was answered
pub answers : (e : Entry) (number : ℕ) (v : View) (other : ℕ) (u : View) → v.writes ≡ false → Merges IsBoard number v other u (answered_view e v u) spent_view
answers e number v other u reads = takes_in number v other u (answered_view e v u) (λ writer all mine theirs. reads_of writer all number (answered_view e v u) reads (part_more v.known u.known all mine.known theirs.known) mine.noted)

-- a join into the pass of a seat that is told of all
pub tells : (number : ℕ) (v : View) (other : ℕ) (u : View) → v.writes ≡ false → Merges IsBoard number v other u (told_view v u) spent_view
tells number v other u reads = takes_in number v other u (told_view v u) (λ writer all mine theirs. reads_of writer all number (told_view v u) reads (part_more v.known u.known all mine.known theirs.known) mine.noted)

-- a join into the pass that notes what the other knows
pub notes : (number : ℕ) (v : View) (other : ℕ) (u : View) → Merges IsBoard number v other u (noting_view v u) spent_view
notes number v other u = takes_in number v other u (noting_view v u) (λ writer all mine theirs. record { whole = mine.whole; known = mine.known; noted = theirs.known })
