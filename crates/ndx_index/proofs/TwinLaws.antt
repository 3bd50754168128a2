-- What is done to the pairs or the links of a page.
use Rattle.std.proofs.Common.{◌≡◌, ℕ, zero, suc, ◌<◌, List, [], ◌∷◌, ◌++◌, length, take, drop, set, refl, sym, ap, ◌∙◌, arith}
use Rattle.std.specs.List.{insert, remove}
use Rattle.std.proofs.lemmas.List.{map-append, take-map, drop-map, length-map, length-set}
use Rattle.ndx_index.specs.declared.pair.Pair.{Pair}
use Rattle.ndx_index.specs.PairPages.{page_at, split_page}
use Rattle.ndx_index.specs.declared.pages.store.PageStore.TheInside.{Inside}
use Rattle.ndx_index.specs.PageStore.{Page, Store, page_in, no_page, links_of, zipped, with_pairs, with_pairs_at, with_links_at, pairs_split, links_split, store_view, AreTwins}

pub length-zipped : (ps ls : List (List Pair)) → length ps ≡ length ls → length (zipped ps ls) ≡ length ps
length-zipped [] ls e = refl
length-zipped (p ∷ ps) [] e = absurd (omega (arith, e))
length-zipped (p ∷ ps) (l ∷ ls) e = ap suc (length-zipped ps ls (omega (arith, e)))

pub zip_there : (ps ls : List (List Pair)) (p : ℕ) → length ps ≡ length ls → p < length ps → page_in (zipped ps ls) p ≡ record { pairs = page_at ps p; links = links_of (page_at ls p) }
zip_there [] ls p e lt = absurd (omega arith)
zip_there (g ∷ ps) [] p e lt = absurd (omega (arith, e))
zip_there (g ∷ ps) (l ∷ ls) zero e lt = refl
zip_there (g ∷ ps) (l ∷ ls) (suc p) e lt = zip_there ps ls p (omega (arith, e)) (omega arith)

pub zip_pairs : (ps ls : List (List Pair)) (p : ℕ) (g : List Pair) → length ps ≡ length ls → zipped (set ps p g) ls ≡ set (zipped ps ls) p (record { pairs = g; links = links_of (page_at ls p) })
zip_pairs [] ls p g e = refl
zip_pairs (h ∷ ps) [] p g e = absurd (omega (arith, e))
zip_pairs (h ∷ ps) (l ∷ ls) zero g e = refl
zip_pairs (h ∷ ps) (l ∷ ls) (suc p) g e = ap (λ (r : List Page). record { pairs = h; links = links_of l } ∷ r) (zip_pairs ps ls p g (omega (arith, e)))

pub zip_links : (ps ls : List (List Pair)) (p : ℕ) (l : List Pair) → length ps ≡ length ls → zipped ps (set ls p l) ≡ set (zipped ps ls) p (record { pairs = page_at ps p; links = links_of l })
zip_links [] ls p g e = refl
zip_links (h ∷ ps) [] p g e = absurd (omega (arith, e))
zip_links (h ∷ ps) (l ∷ ls) zero g e = refl
zip_links (h ∷ ps) (l ∷ ls) (suc p) g e = ap (λ (r : List Page). record { pairs = h; links = links_of l } ∷ r) (zip_links ps ls p g (omega (arith, e)))

pub zip_cleared : (ps ls : List (List Pair)) (p : ℕ) → length ps ≡ length ls → zipped (set ps p []) (set ls p []) ≡ set (zipped ps ls) p no_page
zip_cleared [] ls p e = refl
zip_cleared (h ∷ ps) [] p e = absurd (omega (arith, e))
zip_cleared (h ∷ ps) (l ∷ ls) zero e = refl
zip_cleared (h ∷ ps) (l ∷ ls) (suc p) e = ap (λ (r : List Page). record { pairs = h; links = links_of l } ∷ r) (zip_cleared ps ls p (omega (arith, e)))

pub zip_pushed : (ps ls : List (List Pair)) (new : List Pair) → length ps ≡ length ls → zipped (ps ++ new ∷ []) (ls ++ [] ∷ []) ≡ zipped ps ls ++ with_pairs new no_page ∷ []
zip_pushed [] [] new e = refl
zip_pushed [] (l ∷ ls) new e = absurd (omega (arith, e))
zip_pushed (h ∷ ps) [] new e = absurd (omega (arith, e))
zip_pushed (h ∷ ps) (l ∷ ls) new e = ap (λ (r : List Page). record { pairs = h; links = links_of l } ∷ r) (zip_pushed ps ls new (omega (arith, e)))

pub links-insert : (ls : List Pair) (i : ℕ) (q : Pair) → links_of (insert ls i q) ≡ insert (links_of ls) i q.number
links-insert ls i q =
    map-append (λ (x : Pair). x.number) (take i ls) (q ∷ drop i ls)
    ∙ ap (λ (l : List ℕ). l ++ links_of (q ∷ drop i ls)) (sym (take-map (λ (x : Pair). x.number) i ls))
    ∙ ap (λ (l : List ℕ). take i (links_of ls) ++ q.number ∷ l) (sym (drop-map (λ (x : Pair). x.number) i ls))

pub links-remove : (ls : List Pair) (i : ℕ) → links_of (remove ls i) ≡ remove (links_of ls) i
links-remove ls i =
    map-append (λ (x : Pair). x.number) (take i ls) (drop (suc i) ls)
    ∙ ap (λ (l : List ℕ). l ++ links_of (drop (suc i) ls)) (sym (take-map (λ (x : Pair). x.number) i ls))
    ∙ ap (λ (l : List ℕ). take i (links_of ls) ++ l) (sym (drop-map (λ (x : Pair). x.number) (suc i) ls))

pub links-take : (ls : List Pair) (i : ℕ) → links_of (take i ls) ≡ take i (links_of ls)
links-take ls i = sym (take-map (λ (x : Pair). x.number) i ls)

pub links-drop : (ls : List Pair) (i : ℕ) → links_of (drop i ls) ≡ drop i (links_of ls)
links-drop ls i = sym (drop-map (λ (x : Pair). x.number) i ls)

pub record IsTwin (x : Inside) (pages : List Page) (p : ℕ) : Type 0 where
  pub pairs_index : p < length x.pair_pages.pages
  pub links_index : p < length x.link_pages.pages
  pub pairs : (page_in pages p).pairs ≡ page_at x.pair_pages.pages p
  pub links : (page_in pages p).links ≡ links_of (page_at x.link_pages.pages p)
  pub pair_count : length (page_in pages p).pairs ≡ length (page_at x.pair_pages.pages p)
  pub link_count : length (page_in pages p).links ≡ length (page_at x.link_pages.pages p)

pub store_count : {x : Inside} {now : Store} → store_view x ≡ now → AreTwins x → length now.pages ≡ length x.pair_pages.pages
store_count {x = x} e h = ap (λ (s : Store). length s.pages) (sym e) ∙ length-zipped x.pair_pages.pages x.link_pages.pages h.same

pub is_twin : {x : Inside} {now : Store} {p : ℕ} → store_view x ≡ now → AreTwins x → p < length now.pages → IsTwin x now.pages p
is_twin {x = x} {now = now} {p = p} e h lt =
    let pages : zipped x.pair_pages.pages x.link_pages.pages ≡ now.pages = ap (λ (s : Store). s.pages) e in
    let index : p < length x.pair_pages.pages = omega (arith, lt, store_count e h) in
    let there = ap (λ (l : List Page). page_in l p) (sym pages) ∙ zip_there x.pair_pages.pages x.link_pages.pages p h.same index in
    let links = ap (λ (g : Page). g.links) there in
    let pairs = ap (λ (g : Page). g.pairs) there in
    record {
      pairs_index = index;
      links_index = omega (arith, index, h.same);
      pairs = pairs;
      links = links;
      pair_count = ap length pairs;
      link_count = ap length links ∙ length-map (page_at x.link_pages.pages p) (λ (q : Pair). q.number);
    }

-- other pairs put into a page
pairs_put : {x : Inside} {now : Store} (p : ℕ) (new : List Pair) → store_view x ≡ now → AreTwins x → p < length now.pages
    → zipped (set x.pair_pages.pages p new) x.link_pages.pages ≡ with_pairs_at now.pages p new
pairs_put {x = x} {now = now} p new e h lt =
    zip_pairs x.pair_pages.pages x.link_pages.pages p new h.same
    ∙ ap (λ (s : Store). set s.pages p (record { pairs = new; links = links_of (page_at x.link_pages.pages p) })) e
    ∙ ap (λ (l : List ℕ). set now.pages p (record { pairs = new; links = l })) (sym (is_twin e h lt).links)

-- other links put into a page
links_put : {x : Inside} {now : Store} (p : ℕ) (new : List Pair) → store_view x ≡ now → AreTwins x → p < length now.pages
    → zipped x.pair_pages.pages (set x.link_pages.pages p new) ≡ with_links_at now.pages p (links_of new)
links_put {x = x} {now = now} p new e h lt =
    zip_links x.pair_pages.pages x.link_pages.pages p new h.same
    ∙ ap (λ (s : Store). set s.pages p (record { pairs = page_at x.pair_pages.pages p; links = links_of new })) e
    ∙ ap (λ (l : List Pair). set now.pages p (record { pairs = l; links = links_of new })) (sym (is_twin e h lt).pairs)

-- what is done to a page's pairs is done to the page
pub pairs_changed : {x : Inside} {now : Store} {p : ℕ} {pages : List (List Pair)} (f : List Pair → List Pair) → store_view x ≡ now → AreTwins x → p < length now.pages
    → pages ≡ set x.pair_pages.pages p (f (page_at x.pair_pages.pages p)) → zipped pages x.link_pages.pages ≡ with_pairs_at now.pages p (f (page_in now.pages p).pairs)
pairs_changed {x = x} {now = now} {p = p} f e h lt is =
    ap (λ (l : List (List Pair)). zipped l x.link_pages.pages) is
    ∙ pairs_put p (f (page_at x.pair_pages.pages p)) e h lt
    ∙ ap (λ (l : List Pair). with_pairs_at now.pages p (f l)) (sym (is_twin e h lt).pairs)

-- what is done to the pairs that stand for a page's links is done to the links
pub links_changed : {x : Inside} {now : Store} {p : ℕ} {pages : List (List Pair)} (f : List Pair → List Pair) (g : List ℕ → List ℕ) → ((l : List Pair) → links_of (f l) ≡ g (links_of l))
    → store_view x ≡ now → AreTwins x → p < length now.pages
    → pages ≡ set x.link_pages.pages p (f (page_at x.link_pages.pages p)) → zipped x.pair_pages.pages pages ≡ with_links_at now.pages p (g (page_in now.pages p).links)
links_changed {x = x} {now = now} {p = p} f g same e h lt is =
    ap (zipped x.pair_pages.pages) is
    ∙ links_put p (f (page_at x.link_pages.pages p)) e h lt
    ∙ ap (with_links_at now.pages p) (same (page_at x.link_pages.pages p) ∙ ap g (sym (is_twin e h lt).links))

-- the pairs of a page from a place on moved to another page
pub pairs_moved : {x : Inside} {now : Store} {p q : ℕ} {pages : List (List Pair)} (at : ℕ) → store_view x ≡ now → AreTwins x → p < length now.pages → q < length now.pages
    → pages ≡ split_page x.pair_pages.pages p at q → zipped pages x.link_pages.pages ≡ pairs_split now.pages p at q
pairs_moved {x = x} {now = now} {p = p} {q = q} at e h lt lt2 is =
    let twin = is_twin e h lt in
    let ps = x.pair_pages.pages in
    let ls = x.link_pages.pages in
    let own = page_at ps p in
    ap (λ (l : List (List Pair)). zipped l ls) is
    ∙ zip_pairs (set ps q (drop at own)) ls p (take at own) (length-set ps q (drop at own) ∙ h.same)
    ∙ ap (λ (l : List Page). set l p (record { pairs = take at own; links = links_of (page_at ls p) })) (pairs_put q (drop at own) e h lt2)
    ∙ ap (λ (l : List ℕ). set (with_pairs_at now.pages q (drop at own)) p (record { pairs = take at own; links = l })) (sym twin.links)
    ∙ ap (λ (l : List Pair). set (with_pairs_at now.pages q (drop at l)) p (with_pairs (take at l) (page_in now.pages p))) (sym twin.pairs)

-- the links of a page from a place on moved to another page
pub links_moved : {x : Inside} {now : Store} {p q : ℕ} {pages : List (List Pair)} (at : ℕ) → store_view x ≡ now → AreTwins x → p < length now.pages → q < length now.pages
    → pages ≡ split_page x.link_pages.pages p at q → zipped x.pair_pages.pages pages ≡ links_split now.pages p at q
links_moved {x = x} {now = now} {p = p} {q = q} at e h lt lt2 is =
    let twin = is_twin e h lt in
    let ps = x.pair_pages.pages in
    let ls = x.link_pages.pages in
    let own = page_at ls p in
    let kept : links_of (take at own) ≡ take at (page_in now.pages p).links = links-take own at ∙ ap (take at) (sym twin.links) in
    let moved : links_of (drop at own) ≡ drop at (page_in now.pages p).links = links-drop own at ∙ ap (drop at) (sym twin.links) in
    ap (zipped ps) is
    ∙ zip_links ps (set ls q (drop at own)) p (take at own) (h.same ∙ sym (length-set ls q (drop at own)))
    ∙ ap (λ (l : List Page). set l p (record { pairs = page_at ps p; links = links_of (take at own) })) (links_put q (drop at own) e h lt2)
    ∙ ap (λ (l : List Pair). set (with_links_at now.pages q (links_of (drop at own))) p (record { pairs = l; links = links_of (take at own) })) (sym twin.pairs)
    ∙ rw (kept, moved) refl
