use Rattle.std.proofs.Common.{◌≡◌, ◌+◌, ◌-◌, ◌*◌, ◌/◌, ◌%◌, ◌<◌, ℕ, List, [], ◌∷◌, ◌++◌, length, replicate, ap, sym, ◌∙◌, subst, arith}
use Rattle.std.proofs.lemmas.List.{length-append, length-replicate}
use Rattle.ndx_index.specs.declared.pair.Pair.{Pair}
use Rattle.ndx_index.specs.IndexTree.{joined}
use Rattle.ndx_index.specs.PairPages.{pages_of, AreSmall}
use Rattle.ndx_index.specs.Slots.{blank}
use Rattle.ndx_index.proofs.Filled.{full_joined, full_some, last_page_joined, last_page_some, last_page_small, last_page_fit}
use Rattle.ndx_index.proofs.Parting.{NoneEmpty}
use Rattle.ndx_index.proofs.pages.pair_pages.PairPages.filled.Goals as goal

pub returns-then-rest-eq0-clause-pairs : goal.returns-then-rest-eq0-clause-pairs
returns-then-rest-eq0-clause-pairs c =
    let ps = c.args.pairs.pairs in
    let n : ℕ = c.len-full.result / 16 in
    let places : ℕ = 16 in
    let counts : c.push_copies.new.run.items ≡ replicate n places =
    c.push_copies.ensures.items ∙ ap (λ (cs : List ℕ). cs ++ replicate n places) (c.reserve.ensures.items ∙ c.new-counts.ensures.items) in
    let long : length ps ≡ n * 16 = omega (arith, c.len-full.ensures.count, c.len-rest.ensures.count, c.if-rest-eq0.true) in
    subst (λ (cs : List ℕ). joined (pages_of cs ps) ≡ ps) (sym counts) (full_joined n ps long)

pub returns-then-rest-eq0-clause-some : goal.returns-then-rest-eq0-clause-some
returns-then-rest-eq0-clause-some c =
    let ps = c.args.pairs.pairs in
    let n : ℕ = c.len-full.result / 16 in
    let places : ℕ = 16 in
    let counts : c.push_copies.new.run.items ≡ replicate n places =
    c.push_copies.ensures.items ∙ ap (λ (cs : List ℕ). cs ++ replicate n places) (c.reserve.ensures.items ∙ c.new-counts.ensures.items) in
    let long : length ps ≡ n * 16 = omega (arith, c.len-full.ensures.count, c.len-rest.ensures.count, c.if-rest-eq0.true) in
    subst (λ (cs : List ℕ). NoneEmpty (pages_of cs ps)) (sym counts) (full_some n ps long)

pub invariant_of-result-2 : goal.invariant_of-result-2
invariant_of-result-2 c =
    let ps = c.args.pairs.pairs in
    let n : ℕ = c.len-full.result / 16 in
    let r : ℕ = c.len-rest.result % 16 in
    let places : ℕ = 16 in
    let bs = replicate (16 - r) (blank c.reserve-2.new.self.key_len) in
    let counts : c.push_reserved.new.self.items ≡ replicate n places ++ r ∷ [] =
    c.push_reserved.ensures.items ∙ ap (λ (cs : List ℕ). cs ++ r ∷ []) (c.push_copies.ensures.items ∙ ap (λ (cs : List ℕ). cs ++ replicate n places) (c.reserve.ensures.items ∙ c.new-counts.ensures.items)) in
    let slots : c.push_blank.new.self.pairs ≡ ps ++ bs = c.push_blank.ensures.pairs ∙ ap (λ (qs : List Pair). qs ++ bs) c.reserve-2.ensures.pairs in
    let long : length ps ≡ n * 16 + r = omega (arith, c.len-full.ensures.count, c.len-rest.ensures.count) in
    let below : r < 16 = omega arith in
    let many : length c.push_reserved.new.self.items ≡ n + 1 = ap length counts ∙ length-append (replicate n places) (r ∷ []) ∙ ap (λ (m : ℕ). m + 1) (length-replicate n places) in
    record {
      fit = ap length slots ∙ last_page_fit n r ps bs long (length-replicate (16 - r) (blank c.reserve-2.new.self.key_len)) below ∙ ap (λ (cs : List ℕ). length cs * 16) (sym counts);
      bounded = subst AreSmall (sym counts) (last_page_small n r (omega arith));
      slots_room = omega arith;
      count_bounded = omega (arith, many, c.if-full-ge-MAX_PAGES.false);
      counts_room = omega (arith, many, c.push_reserved.ensures.capacity, c.push_copies.ensures.capacity, c.in_ok-reserve.ensures.ok);
    }

pub returns-clause-pairs : goal.returns-clause-pairs
returns-clause-pairs c =
    let ps = c.args.pairs.pairs in
    let n : ℕ = c.len-full.result / 16 in
    let r : ℕ = c.len-rest.result % 16 in
    let places : ℕ = 16 in
    let bs = replicate (16 - r) (blank c.reserve-2.new.self.key_len) in
    let counts : c.push_reserved.new.self.items ≡ replicate n places ++ r ∷ [] =
    c.push_reserved.ensures.items ∙ ap (λ (cs : List ℕ). cs ++ r ∷ []) (c.push_copies.ensures.items ∙ ap (λ (cs : List ℕ). cs ++ replicate n places) (c.reserve.ensures.items ∙ c.new-counts.ensures.items)) in
    let slots : c.push_blank.new.self.pairs ≡ ps ++ bs = c.push_blank.ensures.pairs ∙ ap (λ (qs : List Pair). qs ++ bs) c.reserve-2.ensures.pairs in
    let long : length ps ≡ n * 16 + r = omega (arith, c.len-full.ensures.count, c.len-rest.ensures.count) in
    ap (λ (cs : List ℕ). joined (pages_of cs c.push_blank.new.self.pairs)) counts ∙ ap (λ (qs : List Pair). joined (pages_of (replicate n places ++ r ∷ []) qs)) slots
    ∙ last_page_joined n r ps bs long

pub returns-clause-some : goal.returns-clause-some
returns-clause-some c =
    let ps = c.args.pairs.pairs in
    let n : ℕ = c.len-full.result / 16 in
    let r : ℕ = c.len-rest.result % 16 in
    let places : ℕ = 16 in
    let bs = replicate (16 - r) (blank c.reserve-2.new.self.key_len) in
    let counts : c.push_reserved.new.self.items ≡ replicate n places ++ r ∷ [] =
    c.push_reserved.ensures.items ∙ ap (λ (cs : List ℕ). cs ++ r ∷ []) (c.push_copies.ensures.items ∙ ap (λ (cs : List ℕ). cs ++ replicate n places) (c.reserve.ensures.items ∙ c.new-counts.ensures.items)) in
    let slots : c.push_blank.new.self.pairs ≡ ps ++ bs = c.push_blank.ensures.pairs ∙ ap (λ (qs : List Pair). qs ++ bs) c.reserve-2.ensures.pairs in
    let long : length ps ≡ n * 16 + r = omega (arith, c.len-full.ensures.count, c.len-rest.ensures.count) in
    let some : 0 < r = omega (arith, c.if-rest-eq0.false) in
    subst (λ (cs : List ℕ). NoneEmpty (pages_of cs c.push_blank.new.self.pairs)) (sym counts)
    (subst (λ (qs : List Pair). NoneEmpty (pages_of (replicate n places ++ r ∷ []) qs)) (sym slots) (last_page_some n r ps bs long some))
