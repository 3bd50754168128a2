-- Pages that are full but the last.
use Rattle.std.proofs.Common.{◌≡◌, ℕ, zero, suc, ◌+◌, ◌-◌, ◌*◌, ◌<◌, ◌≤◌, List, [], ◌∷◌, ◌++◌, map, take, drop, length, replicate, refl, ap, sym, ◌∙◌, subst, arith}
use Rattle.std.proofs.lemmas.List.{append-nil, length-append, length-replicate, length-drop, length-take-le, take-append-le, drop-append-le, take-append-drop, take_all, nil_from_length}
use Rattle.ndx_index.specs.declared.pair.Pair.{Pair}
use Rattle.ndx_index.specs.PageStore.{Page, zipped}
use Rattle.ndx_index.specs.PairPages.{pages_of, AreSmall}
use Rattle.ndx_index.specs.IndexTree.{joined, HavePairs}
use Rattle.ndx_index.proofs.Parting.{NoneEmpty}

-- ---- n full pages
pub full_joined : (n : ℕ) (ps : List Pair) → length ps ≡ n * 16 → joined (pages_of (replicate n 16) ps) ≡ ps
full_joined zero ps long = sym (nil_from_length ps (omega (arith, long)))
full_joined (suc n) ps long =
    let rest : length (drop 16 ps) ≡ n * 16 = omega (arith, long, length-drop 16 ps) in
    ap (λ (qs : List Pair). take 16 ps ++ qs) (full_joined n (drop 16 ps) rest) ∙ take-append-drop 16 ps

pub full_some : (n : ℕ) (ps : List Pair) → length ps ≡ n * 16 → NoneEmpty (pages_of (replicate n 16) ps)
full_some zero ps long = tt
full_some (suc n) ps long =
    let front : 16 ≤ length ps = omega (arith, long) in
    let rest : length (drop 16 ps) ≡ n * 16 = omega (arith, long, length-drop 16 ps) in
    (omega (arith, length-take-le 16 ps front), full_some n (drop 16 ps) rest)

-- ---- n full pages and one of r pairs, with blanks after these
pub last_page_joined : (n r : ℕ) (ps bs : List Pair) → length ps ≡ n * 16 + r → joined (pages_of (replicate n 16 ++ r ∷ []) (ps ++ bs)) ≡ ps
last_page_joined zero r ps bs long = append-nil (take r (ps ++ bs)) ∙ take-append-le r ps bs (omega (arith, long)) ∙ take_all r ps (omega (arith, long))
last_page_joined (suc n) r ps bs long =
    let front : 16 ≤ length ps = omega (arith, long) in
    let rest : length (drop 16 ps) ≡ n * 16 + r = omega (arith, long, length-drop 16 ps) in
    (λ i. take-append-le 16 ps bs front i ++ joined (pages_of (replicate n 16 ++ r ∷ []) (drop-append-le 16 ps bs front i)))
    ∙ ap (λ (qs : List Pair). take 16 ps ++ qs) (last_page_joined n r (drop 16 ps) bs rest) ∙ take-append-drop 16 ps

pub last_page_some : (n r : ℕ) (ps bs : List Pair) → length ps ≡ n * 16 + r → 0 < r → NoneEmpty (pages_of (replicate n 16 ++ r ∷ []) (ps ++ bs))
last_page_some zero r ps bs long some =
    let front : r ≤ length ps = omega (arith, long) in
    (omega (arith, ap length (take-append-le r ps bs front), length-take-le r ps front, some), tt)
last_page_some (suc n) r ps bs long some =
    let front : 16 ≤ length ps = omega (arith, long) in
    let rest : length (drop 16 ps) ≡ n * 16 + r = omega (arith, long, length-drop 16 ps) in (
      omega (arith, ap length (take-append-le 16 ps bs front), length-take-le 16 ps front),
      subst (λ (qs : List Pair). NoneEmpty (pages_of (replicate n 16 ++ r ∷ []) qs)) (sym (drop-append-le 16 ps bs front)) (last_page_some n r (drop 16 ps) bs rest some),
    )

pub last_page_small : (n r : ℕ) → r ≤ 16 → AreSmall (replicate n 16 ++ r ∷ [])
last_page_small zero r le = (le, tt)
last_page_small (suc n) r le = (omega arith, last_page_small n r le)

pub last_page_fit : (n r : ℕ) (ps bs : List Pair) → length ps ≡ n * 16 + r → length bs ≡ 16 - r → r < 16 → length (ps ++ bs) ≡ length (replicate n 16 ++ r ∷ []) * 16
last_page_fit n r ps bs long blanks below =
    let places : ℕ = 16 in
    omega (arith, length-append ps bs, length-append (replicate n places) (r ∷ []), length-replicate n places, long, blanks, below)

-- ---- the same pages with links
pub zipped_pairs : (ps ls : List (List Pair)) → length ps ≡ length ls → map (λ (g : Page). g.pairs) (zipped ps ls) ≡ ps
zipped_pairs [] ls e = refl
zipped_pairs (p ∷ ps) [] e = absurd (omega (arith, e))
zipped_pairs (p ∷ ps) (l ∷ ls) e = ap (λ (rest : List (List Pair)). p ∷ rest) (zipped_pairs ps ls (omega (arith, e)))

pub zipped_some : (ps ls : List (List Pair)) → length ps ≡ length ls → NoneEmpty ps → HavePairs (zipped ps ls)
zipped_some [] ls e some = tt
zipped_some (p ∷ ps) [] e some = absurd (omega (arith, e))
zipped_some (p ∷ ps) (l ∷ ls) e some = (some.0, zipped_some ps ls (omega (arith, e)) some.1)
