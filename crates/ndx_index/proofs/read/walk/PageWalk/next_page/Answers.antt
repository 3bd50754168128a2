use Rattle.std.proofs.Common.{◌+◌, List, [], ◌∷◌, ◌++◌, reverse, ap, ◌∙◌, refl}
use Rattle.std.proofs.lemmas.List.{reverse-append, reverse-reverse}
use Rattle.ndx_index.specs.declared.read.view.PageAt.{PageAt}
use Rattle.ndx_index.specs.Walks.{at_depth, node_seen, pages_under}
use Rattle.ndx_index.proofs.WalkSteps.{shallow_step, walk_popped}
use Rattle.ndx_index.proofs.read.walk.PageWalk.next_page.Goals as goal

pub step-requires-clause-walk : goal.step-requires-clause-walk
step-requires-clause-walk c =
    (walk_popped c.self.inside.layout c.self.inside.bytes.now c.self.inside.met.items c.self.inside.pending.items c.pop.new.self.items c.in-Some.at c.in-Some.ensures.items c.self.invariant).0

pub step-requires-clause-depth : goal.step-requires-clause-depth
step-requires-clause-depth c =
    (walk_popped c.self.inside.layout c.self.inside.bytes.now c.self.inside.met.items c.self.inside.pending.items c.pop.new.self.items c.in-Some.at c.in-Some.ensures.items c.self.invariant).1

pub returns-clause-step : goal.returns-clause-step
returns-clause-step c =
    let inside = c.self.inside in
    let popped = walk_popped inside.layout inside.bytes.now inside.met.items inside.pending.items c.pop.new.self.items c.in-Some.at c.in-Some.ensures.items c.self.invariant in
    let under : List PageAt = at_depth (c.in-Some.at.depth + 1) (pages_under (node_seen c.in_ok-view.view)) in
    rw (← c.self.view_is) record {
      rest = reverse c.pop.new.self.items;
      next = ap reverse c.in-Some.ensures.items ∙ reverse-append c.pop.new.self.items (c.in-Some.at ∷ []);
      shallow = shallow_step inside.layout inside.bytes.now inside.met.items c.pop.new.self.items c.in-Some.at.depth popped.0 popped.1;
      holds = c.in_ok-view.ensures.node;
      met = c.in_ok-view.ensures.met;
      pending = ap reverse c.in_ok-view.ensures.pending ∙ reverse-append c.pop.new.self.items (reverse under) ∙ ap (λ (xs : List PageAt). xs ++ reverse c.pop.new.self.items) (reverse-reverse under);
      same_file = refl;
      same_layout = refl;
    }
