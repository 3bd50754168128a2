use Rattle.std.proofs.Common.{◌≡◌, ℕ, ap, subst, sym, ◌∙◌}
use Rattle.std.proofs.lemmas.Result.{err_from_is_err_and}
use Rattle.ndx_index.specs.declared.read.page.PageLayout.{PageLayout}
use Rattle.ndx_index.specs.Walks.{node_seen, HasKeyLength}
use Rattle.ndx_index.proofs.TreeReading.{state_init, state_goes, state_stops, state_done}
use Rattle.ndx_index.proofs.read.tree.read_tree.Goals as goal

pub loop-slots-init : goal.loop-slots-init
loop-slots-init c = record {
  state = state_init c.args.layout c.args.bytes.now c.args.root c.in_ok-walk.walk c.reserve.new.self.pairs c.in_ok-walk.ensures.walk
      (c.reserve.ensures.pairs ∙ c.new-slots.ensures.pairs);
  key_len = c.reserve.ensures.key_len ∙ c.new-slots.ensures.key_len;
}

pub loop-slots-preserved : goal.loop-slots-preserved
loop-slots-preserved c =
    let step = rw c.in-Some.is at c.in_ok-seen.ensures.step in
    record {
      state = state_goes c.args.layout c.args.bytes.now c.args.root c.loop-slots.walk c.next_page.new.self c.in-Some.seen.at (node_seen c.in-Some.seen.view)
          c.loop-slots.slots.pairs c.take_page.new.pairs.pairs c.loop-slots.invariant.state step c.in_ok-take_page.ensures.ok;
      key_len = c.take_page.ensures.key_len ∙ c.loop-slots.invariant.key_len;
    }

pub returns-in_err-take_page-clause-err : goal.returns-in_err-take_page-clause-err
returns-in_err-take_page-clause-err c =
    let step = rw c.in-Some.is at c.in_ok-seen.ensures.step in
    let p = err_from_is_err_and c.from_residual-in_err-take_page.result c.from_residual-in_err-take_page.ensures.1 in
    rw (p.1, p.2) (state_stops c.args.layout c.args.bytes.now c.args.root c.loop-slots.walk c.next_page.new.self c.in-Some.seen.at (node_seen c.in-Some.seen.view)
    c.loop-slots.slots.pairs c.loop-slots.invariant.state step c.in_err-take_page.field-0.0 c.in_err-take_page.ensures.err)

pub returns-clause-ok : goal.returns-clause-ok
returns-clause-ok c =
    let ended = rw c.in_default.is at c.in_ok-seen.ensures.step in
    state_done c.args.layout c.args.bytes.now c.args.root c.loop-slots.walk c.loop-slots.slots.pairs c.loop-slots.invariant.state ended

pub take_page-requires : goal.take_page-requires
take_page-requires c =
    let here = rw c.in-Some.is at c.in_ok-seen.ensures.key_len in
    let same : c.loop-slots.walk.layout.key_len ≡ c.loop-slots.slots.key_len = ap (λ (l : PageLayout). l.key_len) c.loop-slots.invariant.state.layout ∙ sym c.loop-slots.invariant.key_len in
    record { key = subst (λ (n : ℕ). HasKeyLength n c.in-Some.seen.view) same here }
