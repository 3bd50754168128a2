-- The lines of a text, as they are typed one after another.
use Rattle.std.proofs.Common.{◌≡◌, ℕ, List, [], ◌∷◌, ◌++◌, Option, Some, None, OnSome, refl, sym, ◌∙◌, ap, subst, append_assoc}
use Rattle.std.proofs.lemmas.List.{append-nil}
use Rattle.std.specs.Io.KnownBytes.{IsAtEnd}
use Rattle.live_day.specs.declared.keyboard.Typed.{Typed}
use Rattle.live_day.specs.Typing.{TypesFirst, TypesKnown, TypesLines, TypesNext, IsAllTyped, HasTyped}

-- nothing was typed yet
known_none : (text : Option (List ℕ)) → TypesKnown text [] text
known_none None = tt
known_none (Some text) = refl

pub typed_none : (text : Option (List ℕ)) (typed : List Typed) → HasTyped text text typed typed
typed_none text typed = record { lines = []; more = sym (append-nil typed); are = known_none text }

-- one line more
lines_more : (lines : List Typed) (line : Typed) (text mid rest : List ℕ) → TypesLines text lines mid → TypesFirst mid line rest → TypesLines text (lines ++ line ∷ []) rest
lines_more [] line text mid rest are one = (rest, subst (λ (t : List ℕ). TypesFirst t line rest) are one, refl)
lines_more (l ∷ lines) line text mid rest are one = (are.0, are.1, lines_more lines line are.0 mid rest are.2 one)

known_more : (lines : List Typed) (line : Typed) (a b c : Option (List ℕ)) → TypesKnown a lines b → TypesNext b (Some line) c → TypesKnown a (lines ++ line ∷ []) c
known_more lines line None b c are one = tt
known_more lines line (Some x) None c are one = absurd are
known_more lines line (Some x) (Some y) None are one = absurd one
known_more lines line (Some x) (Some y) (Some z) are one = lines_more lines line x y z are one

pub typed_one : (a b c : Option (List ℕ)) (typed typed_now typed_then : List Typed) (line : Typed) → HasTyped a b typed typed_now → typed_then ≡ typed_now ++ line ∷ [] → TypesNext b (Some line) c
    → HasTyped a c typed typed_then
typed_one a b c typed typed_now typed_then line has read one = record {
  lines = has.lines ++ line ∷ [];
  more = read ∙ ap (λ (l : List Typed). l ++ line ∷ []) has.more ∙ append_assoc typed has.lines (line ∷ []);
  are = known_more has.lines line a b c has.are one;
}

-- no line more
known_end : (lines : List Typed) (a b c : Option (List ℕ)) → TypesKnown a lines b → TypesNext b None c → TypesKnown a lines c
known_end lines None b c are none = tt
known_end lines (Some x) None c are none = absurd are
known_end lines (Some x) (Some y) None are none = absurd none
known_end lines (Some x) (Some y) (Some z) are none = subst (λ (t : List ℕ). TypesLines x lines t) (none.0 ∙ sym none.1) are

pub typed_end : (a b c : Option (List ℕ)) (typed typed_now typed_then : List Typed) → HasTyped a b typed typed_now → typed_then ≡ typed_now → TypesNext b None c → HasTyped a c typed typed_then
typed_end a b c typed typed_now typed_then has same none = record { lines = has.lines; more = same ∙ has.more; are = known_end has.lines a b c has.are none }

nothing_left : (lines : List Typed) (a b c : Option (List ℕ)) → TypesKnown a lines b → TypesNext b None c → OnSome a (IsAtEnd c)
nothing_left lines None b c are none = tt
nothing_left lines (Some x) None c are none = absurd are
nothing_left lines (Some x) (Some y) None are none = absurd none
nothing_left lines (Some x) (Some y) (Some z) are none = none.1

pub text_ended : (ended : Type 0) (a b c : Option (List ℕ)) (typed typed_now : List Typed) → HasTyped a b typed typed_now → ended → TypesNext b None c → IsAllTyped ended a c
text_ended ended a b c typed typed_now has now none = (now, nothing_left has.lines a b c has.are none)
