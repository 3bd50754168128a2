use Rattle.std.proofs.Common.{◌≡◌, suc, ◌-◌, ◌<◌, sym, subst, arith}
use Rattle.ndx_index.specs.declared.pages.free.FreeList.{FreeList}
use Rattle.ndx_index.specs.declared.pages.root.Root.{Root}
use Rattle.ndx_index.specs.IndexTree.{IsTreeOfLevels}
use Rattle.ndx_index.specs.PageStore.{Store}
use Rattle.ndx_index.specs.TreeSteps.{Inserts, InsertsIn, Raises}
use Rattle.ndx_index.proofs.TreeLists.{tree_in}
use Rattle.ndx_index.proofs.RootInsert.{levels_few, inserted_at_top, inserted_below_top}
use Rattle.ndx_index.proofs.pages.insert.insert_in.Goals.{then-not-has_room, else-not-has_room}
use Rattle.ndx_index.proofs.pages.insert.insert_in.Goals as goal

pub has_room-requires : goal.has_room-requires
has_room-requires c =
    let t = c.args.root.now in
    let a = c.args.store.now.pages in
    let some : 0 < t.levels = omega (arith, c.if-root-eq0.false) in
    let e : t.levels ≡ suc (t.levels - 1) = omega (arith, some) in
    record { there = tree_in (t.levels - 1) a t.page (subst (λ k. IsTreeOfLevels k a t.page) e c.requires.can.whole.tree) }

pub raise-requires : goal.raise-requires
raise-requires c =
    let can = c.requires.can in
    record {
      can = record {
        whole = can.whole;
        levels = omega (arith, c.if-root-eq0.false);
        count_bounded = omega (arith, levels_few c.args.store.now.pages c.args.free.now c.args.root.now c.args.pair.now can, can.count_bounded);
        some = omega (arith, can.enough);
      };
    }

pub returns-clause-inserted : goal.returns-clause-inserted
returns-clause-inserted c =
    let can = c.requires.can in
    let a = c.args.store.now.pages in
    let f = c.args.free.now in
    let t = c.args.root.now in
    let pair = c.args.pair.now in
    let b = c.insert_under.new.store.pages in
    let g = c.insert_under.new.free in
    let done = c.insert_under.ensures.inserted in
    let store = c.if-not-has_room.store in
    let free = c.if-not-has_room.free in
    let root = c.if-not-has_room.root in
    elim c.if-not-has_room.branch [
      | then-not-has_room w ↦
          let r = w.raise.new in
          let at_root : Raises a r.store.pages f r.free t root = subst (λ (u : Root). Raises a r.store.pages f r.free t u) (sym w.root-is) w.raise.ensures.raised in
          let at_free : Raises a r.store.pages f free t root = subst (λ (h : FreeList). Raises a r.store.pages f h t root) (sym w.free-is) at_root in
          let raised : Raises a store.pages f free t root = subst (λ (s : Store). Raises a s.pages f free t root) (sym w.store-is) at_free in
          inserted_below_top a store.pages b f free g t root pair can raised done
      | else-not-has_room w ↦
          let at_root : Inserts (t.levels - 1) store.pages b free g t.page pair = subst (λ (u : Root). Inserts (u.levels - 1) store.pages b free g u.page pair) w.root-is done in
          let at_free : Inserts (t.levels - 1) store.pages b f g t.page pair = subst (λ (h : FreeList). Inserts (t.levels - 1) store.pages b h g t.page pair) w.free-is at_root in
          let put : Inserts (t.levels - 1) a b f g t.page pair = subst (λ (s : Store). Inserts (t.levels - 1) s.pages b f g t.page pair) w.store-is at_free in
          subst (λ (u : Root). InsertsIn a b f g t u pair) (sym w.root-is) (inserted_at_top a b f g t pair (omega (arith, c.if-root-eq0.false)) (omega (arith, levels_few a f t pair can)) put)
    ]
