use Rattle.std.proofs.Common.{◌≡◌, ℕ, List, ◌<◌, ◌≤◌, ◌++◌, ◌+◌, length, drop, get_or, refl, sym, ap, ◌∙◌, append_assoc, length-append, arith}
use Rattle.std.proofs.lemmas.List.{append-nil}
use Rattle.byte_io.specs.Laws.Puts.{more_parts}
use Rattle.byte_io.specs.Writer.{more}
use Rattle.table_diff.specs.declared.matching.Match.{Match}
use Rattle.table_diff.specs.ByKey.{changes_of_matches, match_lines}
use Rattle.table_diff.specs.Changes.{Change, match_changes}
use Rattle.table_diff.specs.DiffText.{change_lines}
use Rattle.table_diff.specs.Matching.{matches_in}
use Rattle.table_diff.proofs.Steps.{changes_next, lines_next, nothing_left}
use Rattle.table_diff.proofs.diff.put_record_changes.Goals as goal

pub returns-in_err-told-clause-front : goal.returns-in_err-told-clause-front
returns-in_err-told-clause-front g c = (_, c.loop-place.invariant.put)

pub loop-place-preserved : goal.loop-place-preserved
loop-place-preserved g c =
    let old = c.args.old_table.now.table in
    let new = c.args.new_table.now.table in
    let all : List Match = matches_in c.args.matches in
    let of : Match → List Change = match_changes old new in
    let place = c.loop-place.place in
    let lt : place < length all = omega (arith, c.loop-place-test.true, c.len-place-end.ensures.count) in
    let m : Match = c.at-matched.result in
    let is : get_or all place m ≡ m = sym c.at-matched.ensures.value in
    let here : List Change = of m in
    let left : List Change = changes_of_matches old new (drop (place + 1) all) in
    let before = c.loop-place.invariant in
    let line : c.as_slice.result.now ≡ change_lines here =
    c.as_slice.ensures.value ∙ c.in_ok-told.ensures.lines ∙ ap (λ (l : List ℕ). l ++ change_lines here) c.clear.ensures.items in
    let lines : match_lines old new (drop place all) ≡ change_lines here ++ change_lines left =
    lines_next of all place m lt ∙ ap (λ (x : Match). change_lines (of x) ++ change_lines left) is in
    let changes : changes_of_matches old new (drop place all) ≡ here ++ left =
    changes_next of all place m lt ∙ ap (λ (x : Match). of x ++ left) is in
    record {
      put = record {
        front = before.put.front ++ change_lines here;
        whole = append_assoc before.put.front (change_lines here) (change_lines left)
            ∙ ap (λ (l : List ℕ). before.put.front ++ l) (sym lines) ∙ before.put.whole;
        put = (
          c.put.ensures.put.0 ∙ before.put.put.0,
          more_parts _ _ _ before.put.front (change_lines here) _ (rw line at c.put.ensures.put.1) before.put.put.1 refl,
        );
      };
      count = omega (arith, before.count, ap (length {A = Change}) changes, length-append here left, c.in_ok-told.ensures.count);
      bounded = omega (arith, before.bounded, c.in_ok-told.ensures.bounded);
    }

pub returns-clause-put : goal.returns-clause-put
returns-clause-put g c =
    let old = c.args.old_table.now.table in
    let new = c.args.new_table.now.table in
    let all : List Match = matches_in c.args.matches in
    let past : length all ≤ c.loop-place.place = omega (arith, c.loop-place-test.false, c.len-place-end.ensures.count) in
    let before = c.loop-place.invariant.put in
    let none = nothing_left (match_changes old new) all c.loop-place.place past in
    let text : List ℕ = match_lines old new all in
    let front : before.front ≡ text = sym (append-nil before.front) ∙ ap (λ (cs : List Change). before.front ++ change_lines cs) (sym none) ∙ before.whole in
    (before.put.0, before.put.1 ∙ ap (λ (bytes : List ℕ). more c.args.out.now.wanted bytes) front)

pub returns-clause-count : goal.returns-clause-count
returns-clause-count g c =
    let old = c.args.old_table.now.table in
    let new = c.args.new_table.now.table in
    let all : List Match = matches_in c.args.matches in
    let past : length all ≤ c.loop-place.place = omega (arith, c.loop-place-test.false, c.len-place-end.ensures.count) in
    let none = nothing_left (match_changes old new) all c.loop-place.place past in
    omega (arith, c.loop-place.invariant.count, ap (length {A = Change}) none)
