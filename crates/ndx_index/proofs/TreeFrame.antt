-- A tree stays as it is where none of its pages is changed.
use Rattle.std.proofs.Common.{◌≡◌, ℕ, zero, suc, ◌+◌, ◌<◌, ◌≤◌, List, [], ◌∷◌, map, length, refl, ap, sym, ◌∙◌, subst, arith}
use Rattle.std.specs.List.{AllByRecursion}
use Rattle.ndx_index.specs.Order.{AreInOrder}
use Rattle.std.proofs.lemmas.Bool.{eq-eqb}
use Rattle.ndx_index.specs.PageStore.{Page, page_in}
use Rattle.ndx_index.specs.IndexTree.{pairs_under, total, here, uses, IsTree, Parted, joined}

pub here_itself : (p : ℕ) → here p p ≡ 1
here_itself p = rw (eq-eqb p p refl)

-- the pages under p are the same in both
abbrev pub Agrees : ℕ → List Page → List Page → ℕ → Type 0
Agrees d a b p = (r : ℕ) → 0 < uses d a p r → page_in b r ≡ page_in a r

pub agrees_itself : (d : ℕ) (a : List Page) (p : ℕ) → 0 < uses d a p p
agrees_itself zero a p = rw (here_itself p) (omega arith)
agrees_itself (suc d) a p = rw (here_itself p) (omega arith)

-- what holds of p's children
AllAgree : ℕ → List Page → List Page → List ℕ → Type 0
AllAgree d a b cs = (r : ℕ) → 0 < total (λ c. uses d a c r) cs → page_in b r ≡ page_in a r

pub record Framed (d : ℕ) (a b : List Page) (p : ℕ) : Type 0 where
  pub pairs : pairs_under d b p ≡ pairs_under d a p
  pub uses_stay : (r : ℕ) → uses d b p r ≡ uses d a p r
  pub tree : length a ≤ length b → IsTree d a p → IsTree d b p

pub record AllFramed (d : ℕ) (a b : List Page) (cs : List ℕ) : Type 0 where
  pub pairs : map (λ c. pairs_under d b c) cs ≡ map (λ c. pairs_under d a c) cs
  pub uses_stay : (r : ℕ) → total (λ c. uses d b c r) cs ≡ total (λ c. uses d a c r) cs
  pub trees : length a ≤ length b → AllByRecursion (λ c. IsTree d a c) cs → AllByRecursion (λ c. IsTree d b c) cs

all_framed : (d : ℕ) (a b : List Page) → ((p : ℕ) → Agrees d a b p → Framed d a b p) → (cs : List ℕ) → ((r : ℕ) → 0 < total (λ c. uses d a c r) cs → page_in b r ≡ page_in a r) → AllFramed d a b cs
all_framed d a b one [] agree = record { pairs = refl; uses_stay = λ r. refl; trees = λ le t. tt }
all_framed d a b one (c ∷ cs) agree =
    let first = one c (λ r h. agree r (omega arith)) in
    let rest = all_framed d a b one cs (λ r h. agree r (omega arith)) in
    record {
      pairs = rw (first.pairs, rest.pairs) refl;
      uses_stay = λ r. rw (first.uses_stay r, rest.uses_stay r) refl;
      trees = λ le t. (first.tree le t.0, rest.trees le t.1);
    }

pub framed : (d : ℕ) (a b : List Page) (p : ℕ) → Agrees d a b p → Framed d a b p
framed zero a b p agree =
    let at = agree p (agrees_itself zero a p) in
    record {
      pairs = ap (λ (g : Page). g.pairs) at;
      uses_stay = λ r. refl;
      tree = λ le t. (omega (arith, t.0), rw at t.1);
    }
framed (suc d) a b p agree =
    let at = agree p (agrees_itself (suc d) a p) in
    let links = (page_in a p).links in
    let below = all_framed d a b (framed d a b) links (λ r h. agree r (omega arith)) in
    let maps = ap (λ (g : Page). map (λ c. pairs_under d b c) g.links) at ∙ below.pairs in
    let same_links = ap (λ (g : Page). g.links) at in
    record {
      pairs = ap joined maps;
      uses_stay = λ r. ap (λ cs. here p r + total (λ c. uses d b c r) cs) same_links ∙ ap (λ n. here p r + n) (below.uses_stay r);
      tree = λ le t. (
        omega (arith, t.0),
        subst (λ (g : Page). Parted (map (λ c. pairs_under d b c) g.links) g.pairs) (sym at) (subst (λ pss. Parted pss (page_in a p).pairs) (sym below.pairs) t.1),
        subst (λ (g : Page). AreInOrder g.pairs) (sym at) t.2,
        subst (λ cs. AllByRecursion (λ c. IsTree d b c) cs) (sym same_links) (below.trees le t.3),
      );
    }
