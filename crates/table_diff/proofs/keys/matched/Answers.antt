use Rattle.std.proofs.Common.{◌≡◌, ℕ, ◌+◌, List, [], ◌∷◌, ◌++◌, length, drop, Option, Some, None, refl, sym, ap, ◌∙◌, append_assoc, length-drop, arith}
use Rattle.std.specs.Prelude.{flat_map}
use Rattle.std.proofs.lemmas.List.{append-nil, drop-drop}
use Rattle.ndx_index.specs.declared.pair.Pair.{Pair}
use Rattle.table_diff.specs.declared.matching.Match.{Match}
use Rattle.table_diff.specs.KeySteps.{first_match}
use Rattle.table_diff.specs.Matching.{in_new, in_old, keys_once, matches_with}
use Rattle.table_diff.proofs.KeyMatching.{all_matches_are, among_left, both_among, first_step, first_takes, none_left, sorted_from, sorted_left, Takes}
use Rattle.table_diff.proofs.KeyOrder.{keys_among, keys_rising}
use Rattle.table_diff.proofs.keys.matched.Goals as goal

-- what a match takes of each list
taken : (c : goal.After-count_of_new-new_place) → Takes (drop c.loop-next.old_place c.args.olds.now.pairs) (drop c.loop-next.new_place c.args.news.now.pairs) c.in-Some.next
taken c = first_takes _ _ c.in-Some.next (sym c.in-Some.ensures.value)

pub loop-next-init : goal.loop-next-init
loop-next-init c =
    let olds : List Pair = c.args.olds.now.pairs in
    let news : List Pair = c.args.news.now.pairs in
    let all : List Match = flat_map (matches_with olds news) (keys_once (olds ++ news)) in
    record {
      found = ap (λ (ms : List Match). ms ++ all) (c.in_ok-reserve.ensures.items ∙ c.new-found.ensures.items) ∙ sym (all_matches_are olds news);
      old_inside = omega arith;
      new_inside = omega arith;
    }

pub loop-next-preserved : goal.loop-next-preserved
loop-next-preserved c =
    let olds : List Pair = c.args.olds.now.pairs in
    let news : List Pair = c.args.news.now.pairs in
    let ks = keys_once (olds ++ news) in
    let i : ℕ = c.loop-next.old_place in
    let j : ℕ = c.loop-next.new_place in
    let m : Match = c.in-Some.next in
    let is : first_match (drop i olds) (drop j news) ≡ Some m = sym c.in-Some.ensures.value in
    let takes = taken c in
    let among = both_among ks olds news (keys_among (olds ++ news)) in
    let sorted = sorted_left i olds (sorted_from olds c.requires.old_order) in
    let ordered = sorted_left j news (sorted_from news c.requires.new_order) in
    let first = first_step (drop i olds) (drop j news) ks m sorted ordered (keys_rising (olds ++ news)) (among_left i ks olds among.0) (among_left j ks news among.1) is in
    let a : ℕ = length (in_old m) in
    let b : ℕ = length (in_new m) in
    let olds_left : drop a (drop i olds) ≡ drop (i + c.count_of_old-old_place.result) olds = drop-drop a i olds ∙ ap (λ (n : ℕ). drop (i + n) olds) (sym c.count_of_old-old_place.ensures.value) in
    let news_left : drop b (drop j news) ≡ drop (j + c.count_of_new-new_place.result) news = drop-drop b j news ∙ ap (λ (n : ℕ). drop (j + n) news) (sym c.count_of_new-new_place.ensures.value) in
    let found : List Match = c.loop-next.found.items in
    let before : List Match = flat_map (matches_with (drop i olds) (drop j news)) ks in
    let after : List Match = flat_map (matches_with (drop (i + c.count_of_old-old_place.result) olds) (drop (j + c.count_of_new-new_place.result) news)) ks in
    let step : before ≡ m ∷ after =
    first ∙ ap (λ (ps : List Pair). m ∷ flat_map (matches_with ps (drop b (drop j news))) ks) olds_left
    ∙ ap (λ (qs : List Pair). m ∷ flat_map (matches_with (drop (i + c.count_of_old-old_place.result) olds) qs) ks) news_left in
    record {
      found = ap (λ (ms : List Match). ms ++ after) c.in_ok-push.ensures.items ∙ append_assoc found (m ∷ []) after ∙ ap (λ (ms : List Match). found ++ ms) (sym step)
          ∙ c.loop-next.invariant.found;
      old_inside = omega (arith, takes.from_olds, c.count_of_old-old_place.ensures.value, length-drop i olds, c.loop-next.invariant.old_inside);
      new_inside = omega (arith, takes.from_news, c.count_of_new-new_place.ensures.value, length-drop j news, c.loop-next.invariant.new_inside);
    }

pub overflow_add-old_place : goal.overflow_add-old_place
overflow_add-old_place c =
    let i : ℕ = c.loop-next.old_place in
    let takes = first_takes (drop i c.args.olds.now.pairs) (drop c.loop-next.new_place c.args.news.now.pairs) c.in-Some.next (sym c.in-Some.ensures.value) in
    omega (arith, takes.from_olds, c.count_of_old-old_place.ensures.value, length-drop i c.args.olds.now.pairs, c.loop-next.invariant.old_inside, c.len-old_count.ensures.count, c.len-old_count.type_inv)

pub overflow_add-new_place : goal.overflow_add-new_place
overflow_add-new_place c =
    let j : ℕ = c.loop-next.new_place in
    let takes = first_takes (drop c.loop-next.old_place c.args.olds.now.pairs) (drop j c.args.news.now.pairs) c.in-Some.next (sym c.in-Some.ensures.value) in
    omega (arith, takes.from_news, c.count_of_new-new_place.ensures.value, length-drop j c.args.news.now.pairs, c.loop-next.invariant.new_inside, c.len-new_count.ensures.count, c.len-new_count.type_inv)

pub loop-next-smaller : goal.loop-next-smaller
loop-next-smaller c =
    let takes = taken c in
    omega (
      arith,
      takes.some,
      takes.from_olds,
      takes.from_news,
      c.count_of_old-old_place.ensures.value,
      c.count_of_new-new_place.ensures.value,
      length-drop c.loop-next.old_place c.args.olds.now.pairs,
      length-drop c.loop-next.new_place c.args.news.now.pairs,
      c.loop-next.invariant.old_inside,
      c.loop-next.invariant.new_inside,
    )

no_next : (r o : Option Match) → r ≡ o → ((m : Match) → r ≡ Some m → ⊥) → o ≡ None
no_next r None e none = refl
no_next r (Some m) e none = absurd (none m e)

pub returns : goal.returns
returns c =
    let olds : List Pair = c.args.olds.now.pairs in
    let news : List Pair = c.args.news.now.pairs in
    let ks = keys_once (olds ++ news) in
    let i : ℕ = c.loop-next.old_place in
    let j : ℕ = c.loop-next.new_place in
    let none : first_match (drop i olds) (drop j news) ≡ None = no_next c.next_match.result (first_match (drop i olds) (drop j news)) c.next_match.ensures.value c.in_default.not-Some in
    let found : List Match = c.loop-next.found.items in
    record {
      value = sym (append-nil found) ∙ ap (λ (ms : List Match). found ++ ms) (sym (none_left (drop i olds) (drop j news) ks none)) ∙ c.loop-next.invariant.found;
    }
