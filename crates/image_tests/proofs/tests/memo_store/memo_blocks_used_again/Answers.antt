use Rattle.std.proofs.Common.{[], ◌∷◌}
use Rattle.dbf_image.specs.Laws.MemoCallers.{after_put, beside_put, after_drop, first_listed, is_held}
use Rattle.image_tests.proofs.tests.memo_store.memo_blocks_used_again.Goals as goal

pub text-requires : goal.text-requires
text-requires g c =
    let b = c.in_ok-b.b in
    record { held = is_held _ b _ (after_drop _ _ (b ∷ []) b _ c.drop_unused.ensures.texts (first_listed b []) (after_put _ _ b _ c.in_ok-b.ensures.texts)) }

pub text-requires-2 : goal.text-requires-2
text-requires-2 g c =
    let b = c.in_ok-b.b in
    record {
      held = is_held _ b _ (beside_put _ _ c.in_ok-c.c b _ _ c.in_ok-c.ensures.fresh c.in_ok-c.ensures.texts
          (after_drop _ _ (b ∷ []) b _ c.drop_unused.ensures.texts (first_listed b []) (after_put _ _ b _ c.in_ok-b.ensures.texts)));
    }

pub text-requires-3 : goal.text-requires-3
text-requires-3 g c = record { held = is_held _ c.in_ok-c.c _ (after_put _ _ c.in_ok-c.c _ c.in_ok-c.ensures.texts) }
