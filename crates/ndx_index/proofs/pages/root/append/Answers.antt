use Rattle.std.proofs.Common.{◌≡◌, ◌<◌, ◌-◌, suc, length, ap, sym, subst, ◌∙◌, arith}
use Rattle.ndx_index.specs.declared.pages.root.Root.{Root}
use Rattle.ndx_index.specs.PageStore.{Page, page_in}
use Rattle.ndx_index.specs.Slots.{slot_at}
use Rattle.ndx_index.specs.TreeSteps.{Appends, AppendsUnder, AppendsBeside, AppendsIn, IsOver}
use Rattle.ndx_index.proofs.Appending.{can_append_top, grown_under, over_both, is_first, ok_weaker}
use Rattle.ndx_index.proofs.pages.root.append.Goals as goal

pub overflow_sub-root : goal.overflow_sub-root
overflow_sub-root c = omega (arith, c.requires.can.levels)

pub append_under-requires : goal.append_under-requires
append_under-requires c = record {
  can = can_append_top (c.args.root.levels - 1) c.args.store.now.pages c.args.root c.args.leaf (omega (arith, c.requires.can.levels)) c.requires.can;
}

pub pair-first-requires : goal.pair-first-requires
pair-first-requires c =
    let a = c.args.store.now.pages in
    let b = c.append_under.new.store.pages in
    let t = c.args.root in
    let q = c.args.leaf in
    let done : AppendsBeside (t.levels - 1) a b q c.in-Some.beside = subst (λ s. Appends (t.levels - 1) a b t.page q s) c.in-Some.is c.in_ok-append_under.ensures.appended in
    record {
      page = omega (arith, c.requires.can.leaf.0, done.longer);
      place = subst (λ (g : Page). 0 < length g.pairs) (sym (done.frame q c.requires.can.leaf.0)) c.requires.can.leaf.1;
    }

pub join-requires : goal.join-requires
join-requires c = record {
  key = c.pair-first.ensures.key;
  count_bounded = omega (arith, c.requires.can.deep, c.requires.can.count_bounded);
}

pub returns-in-None-clause-appended : goal.returns-in-None-clause-appended
returns-in-None-clause-appended c =
    let a = c.args.store.now.pages in
    let b = c.append_under.new.store.pages in
    let t = c.args.root in
    let q = c.args.leaf in
    let d = t.levels - 1 in
    let done : AppendsUnder d a b t.page q = subst (λ s. Appends d a b t.page q s) c.in-None.is c.in_ok-append_under.ensures.appended in
    grown_under d a b t q (omega (arith, c.requires.can.levels)) c.requires.can done

pub returns-in-Some-clause-appended : goal.returns-in-Some-clause-appended
returns-in-Some-clause-appended c =
    let a = c.args.store.now.pages in
    let b = c.append_under.new.store.pages in
    let b1 = c.join.new.store.pages in
    let t = c.args.root in
    let q = c.args.leaf in
    let s = c.in-Some.beside in
    let d = t.levels - 1 in
    let first = c.pair-first.result in
    let e : t.levels ≡ suc d = omega (arith, c.requires.can.levels) in
    let done : AppendsBeside d a b q s = subst (λ x. Appends d a b t.page q x) c.in-Some.is c.in_ok-append_under.ensures.appended in
    let is : first ≡ slot_at (page_in a q).pairs 0 = c.pair-first.ensures.pair ∙ ap (λ (g : Page). slot_at g.pairs 0) (done.frame q c.requires.can.leaf.0) in
    ok_weaker (IsOver b b1 t s first) (λ (u : Root). AppendsIn a b1 t u q)
    (λ (u : Root) over. over_both d a b b1 t u q first s (is_first (page_in a q).pairs first c.requires.can.leaf.1 is) e c.requires.can done over)
    c.join.result c.join.ensures.top
