use Rattle.std.proofs.Common.{List, ℕ, subst, sym}
use Rattle.live_day.specs.declared.keyboard.Typed.{Typed}
use Rattle.live_day.specs.Sessions.{IsWishTyped}
use Rattle.live_day.specs.Wishes.{IsWishOf}
use Rattle.live_day.proofs.answering.wish_typed.Goals as goal

pub returns-in-Text : goal.returns-in-Text
returns-in-Text c = record {
  value = subst (λ (t : Typed). IsWishTyped t c.wish_of.result) (sym c.in-Text.is) (subst (λ (l : List ℕ). IsWishOf l c.wish_of.result) c.as_slice.ensures.value c.wish_of.ensures.value);
}
