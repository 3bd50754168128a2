use Rattle.std.proofs.Common.{◌≡◌, ℕ, suc, ◌+◌, ◌-◌, List, [], ◌∷◌, ◌++◌, map, take, ap, sym, subst, ◌∙◌, arith, below_more}
use Rattle.std.specs.Prelude.{IfSome}
use Rattle.std.specs.List.{slice_get}
use Rattle.std.specs.Option.{option_map}
use Rattle.office_run.specs.ClosedIndex.{IndexContent}
use Rattle.office_run.specs.HandedOver.{index_of, IsIndexFor}
use Rattle.office_run.proofs.HandingLaws.{mapped_next, all_for}
use Rattle.office_run.proofs.closing.closed_indexes.Goals as goal

pub loop-i-preserved : goal.loop-i-preserved
loop-i-preserved c =
    let content = c.args.table.now.content in
    let i = c.loop-i.i in
    let index = c.in_ok-closed_index.field-0 in
    let back : i + 1 - 1 ≡ i = omega arith in
    let more : suc i ≡ i + 1 = omega arith in
    let there = c.in_ok-closed_index.ensures.value ∙ ap (λ (k : ℕ). option_map (index_of content.table) (slice_get content.indexes k)) back in
    let here = subst (λ (k : ℕ). IfSome (slice_get content.indexes k) (IsIndexFor content.table.schema)) back c.in_ok-closed_index.ensures.read in
    record {
      made = c.in_ok-push.ensures.items ∙ ap (λ (l : List IndexContent). l ++ index ∷ []) c.loop-i.invariant.made
          ∙ sym (mapped_next (index_of content.table) content.indexes i index there) ∙ ap (λ (k : ℕ). map (index_of content.table) (take k content.indexes)) more;
      read = below_more _ _ c.loop-i.invariant.read here;
    }

pub returns-clause-read : goal.returns-clause-read
returns-clause-read c = let content = c.args.table.now.content in all_for content.table.schema content.indexes (λ k low. c.loop-i.invariant.read k (omega (arith, low)))
