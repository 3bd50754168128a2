use Rattle.std.proofs.Common.{◌≡◌, ℕ, suc, ◌-◌, [], ◌∷◌, ◌++◌, List, ap, ◌∙◌, reverse, subst, sym, arith}
use Rattle.ndx_index.specs.declared.read.view.PageAt.{PageAt}
use Rattle.ndx_index.specs.Pages.{children}
use Rattle.ndx_index.specs.Shallow.{AreShallow}
use Rattle.ndx_index.specs.Walks.{at_depth}
use Rattle.ndx_index.proofs.WalkSteps.{child_less, shallow_append}
use Rattle.ndx_index.proofs.read.walk.push_children.Goals as goal

pub loop-i-preserved : goal.loop-i-preserved
loop-i-preserved c =
    let s = c.args.inner.now.layout in
    let page = c.args.inner.now.bytes.now in
    let i : ℕ = c.loop-i.i - 1 in
    let at : suc i ≡ c.loop-i.i = omega arith in
    record {
      all = ap (λ (xs : List PageAt). xs ++ reverse (at_depth c.args.depth (children s page i)))
          (c.in_ok-push.ensures.items ∙ ap (λ (p : ℕ). c.loop-i.pending.items ++ record { page = p; depth = c.args.depth } ∷ []) c.child.ensures.value)
          ∙ child_less c.args.depth s page c.loop-i.pending.items i
          ∙ ap (λ (k : ℕ). c.loop-i.pending.items ++ reverse (at_depth c.args.depth (children s page k))) at
          ∙ c.loop-i.invariant.all;
      shallow = λ most le h. subst (AreShallow most) (sym c.in_ok-push.ensures.items) (shallow_append most c.loop-i.pending.items _ (c.loop-i.invariant.shallow most le h) (le, tt));
    }

pub returns-in_err-push-clause-shallow : goal.returns-in_err-push-clause-shallow
returns-in_err-push-clause-shallow c = λ most le h. subst (AreShallow most) (sym c.in_err-push.ensures.items) (c.loop-i.invariant.shallow most le h)
