-- What is heard of stations.
use Rattle.std.proofs.Common.{◌≡◌, ◌≢◌, ◌∙◌, Bool, true, false, ℕ, ◌+◌, ◌<◌, ◌==◌, List, [], ◌∷◌, ◌++◌, length, set, get_or, sym, ap, subst, arith, ◌≤◌, ◌^◌}
use Rattle.std.specs.Prelude.{map, Option, Some, None, IfSome}
use Rattle.std.proofs.lemmas.Bool.Decides.{nat_tests}
use Rattle.std.proofs.lemmas.List.{append-nil}
use Rattle.rtrb.specs.declared.consumer.Consumer.{Consumer}
use Rattle.rtrb.specs.Ring.{SameConsumer}
use Rattle.live_day.specs.declared.keyboard.Typed.{Typed}
use Rattle.live_stations.specs.Done.{AreNamed}
use Rattle.std.proofs.lemmas.List.{length-set}
use Rattle.live_stations.specs.declared.hearing.Hearing.{Hearing}
use Rattle.live_stations.specs.Hearings.{AreHeardFrom, IsHeard, IsHeardAgain, IsHeardOf, IsHearing, IsNumbered, IsSaidNow}
use Rattle.live_stations.specs.Items.{Item, named, said, if_said_by, item_of_numbers, lines_of, numbers_of_item, seated_after}
use Rattle.live_stations.proofs.ItemLaws.{item_more, lines_named, lines_said, seated_named, seated_said}
use Rattle.live_stations.proofs.PairLaws.{pair_all, pair_at, pair_set}

pub if_some : {A : Type 0} {P Q : A → Type 0} (o : Option A) → IfSome o P → ((x : A) → P x → Q x) → IfSome o Q
if_some None p goes = tt
if_some (Some x) p goes = goes x p

-- the same end of the same ring, twice
pub same_consumer : {T A P : Type 0} (a b c : Consumer T A P) → SameConsumer a b → SameConsumer b c → SameConsumer a c
same_consumer a b c p q = ((q.0.0 ∙ p.0.0, q.0.1 ∙ p.0.1, q.0.2 ∙ p.0.2, q.0.3 ∙ p.0.3), q.1 ∙ p.1)

-- What a station was heard, and what it says now, where nothing more is said.
pub record HeardOn (old new : Hearing) : Type 0 where
  pub station : new.station ≡ old.station
  pub ring : SameConsumer old.lines new.lines
  pub heard : (given : List Typed) → IsHeardOf given old → IsHeardOf given new

heard_on : (items : List Item) (n : ℕ) (first old new : Hearing) → HeardOn old new → IsHeard items n first old → IsHeard items n first new
heard_on items n first old new on is = record {
  station_is = on.station ∙ is.station_is;
  ring = same_consumer first.lines old.lines new.lines is.ring on.ring;
  heard = on.heard (lines_of n 1 items) is.heard;
}

-- of as many stations
pub heard_many : (hearings : List Hearing) (k : ℕ) (new : Hearing) → length (set hearings k new) ≡ length hearings
heard_many hearings k new = length-set hearings k new

-- of one station was looked for more
pub heard_same : (items : List Item) (first hearings : List Hearing) (k : ℕ) (old new : Hearing) → AreHeardFrom items 1 first hearings → k < length hearings
    → get_or hearings k old ≡ old → HeardOn old new → AreHeardFrom items 1 first (set hearings k new)
heard_same items first hearings k old new are inside at on =
    pair_set (λ m f h. IsHeard items m f h) (λ m f h. IsHeard items m f h) 1 k first hearings old new are inside
    (λ f is. heard_on items (1 + k) f old new on (subst (λ (h : Hearing). IsHeard items (1 + k) f h) at is))
    (λ m f h apart is. is)

-- a station is given the keyboard
pub heard_named : (items : List Item) (first hearings : List Hearing) (n : ℕ) → AreHeardFrom items 1 first hearings → AreHeardFrom (items ++ named n ∷ []) 1 first hearings
heard_named items first hearings n are =
    pair_all (λ m f h. IsHeard items m f h) (λ m f h. IsHeard (items ++ named n ∷ []) m f h) 1 first hearings are
    (λ m f h after is. record { station_is = is.station_is; ring = is.ring; heard = subst (λ (lines : List Typed). IsHeardOf lines h) (sym (lines_named m 1 n items)) is.heard })

-- What was heard of a station, one line more.
pub record HeardLine (line : Typed) (old new : Hearing) : Type 0 where
  pub station : new.station ≡ old.station
  pub ring : SameConsumer old.lines new.lines
  pub heard : (given : List Typed) → IsHeardOf given old → IsHeardOf (given ++ line ∷ []) new

said_here : (n seated : ℕ) (line : Typed) → seated ≡ n → if_said_by (seated == n) line ≡ line ∷ []
said_here n seated line e = let b : (seated == n) ≡ true = grind (arith, nat_tests) in ap (λ (t : Bool). if_said_by t line) b

said_elsewhere : (n seated : ℕ) (line : Typed) → seated ≢ n → if_said_by (seated == n) line ≡ []
said_elsewhere n seated line e = let b : (seated == n) ≡ false = grind (arith, nat_tests) in ap (λ (t : Bool). if_said_by t line) b

station_at : (items : List Item) (first hearings : List Hearing) (k : ℕ) (old : Hearing) → AreHeardFrom items 1 first hearings → k < length hearings → get_or hearings k old ≡ old → old.station ≡ 1 + k
station_at items first hearings k old are inside at =
    let found = pair_at (λ m f h. IsHeard items m f h) 1 k first hearings old are inside in
    sym (ap (λ (h : Hearing). h.station) at) ∙ found.1.station_is

-- the station that has the keyboard said a line
pub heard_said : (items : List Item) (first hearings : List Hearing) (k : ℕ) (old new : Hearing) (line : Typed) → AreHeardFrom items 1 first hearings → k < length hearings
    → get_or hearings k old ≡ old → old.station ≡ seated_after 1 items → HeardLine line old new → AreHeardFrom (items ++ said line ∷ []) 1 first (set hearings k new)
heard_said items first hearings k old new line are inside at seat more =
    let seated = seated_after 1 items in
    let number : old.station ≡ 1 + k = station_at items first hearings k old are inside at in
    pair_set (λ m f h. IsHeard items m f h) (λ m f h. IsHeard (items ++ said line ∷ []) m f h) 1 k first hearings old new are inside
    (λ f found.
    let is = subst (λ (h : Hearing). IsHeard items (1 + k) f h) at found in
    let here : seated ≡ 1 + k = sym seat ∙ is.station_is in
    record {
      station_is = more.station ∙ is.station_is;
      ring = same_consumer f.lines old.lines new.lines is.ring more.ring;
      heard =
          subst (λ (lines : List Typed). IsHeardOf lines new)
          (sym (lines_said (1 + k) 1 line items ∙ ap (λ (lines : List Typed). lines_of (1 + k) 1 items ++ lines) (said_here (1 + k) seated line here)))
          (more.heard (lines_of (1 + k) 1 items) is.heard);
    })
    (λ m f h apart is.
    let elsewhere : seated ≢ m = λ (e : seated ≡ m). apart (sym e ∙ sym seat ∙ number) in
    record {
      station_is = is.station_is;
      ring = is.ring;
      heard =
          subst (λ (lines : List Typed). IsHeardOf lines h)
          (sym (lines_said m 1 line items ∙ ap (λ (lines : List Typed). lines_of m 1 items ++ lines) (said_elsewhere m seated line elsewhere) ∙ append-nil (lines_of m 1 items)))
          is.heard;
    })

named_more : (stations n : ℕ) (items : List Item) → AreNamed stations items → 1 ≤ n → n ≤ stations → n < 2 ^ 64 → AreNamed stations (items ++ named n ∷ [])
named_more stations n [] are least most small = (least, most, small, tt)
named_more stations n (named m ∷ items) are least most small = (are.0, are.1, are.2, named_more stations n items are.3 least most small)
named_more stations n (said line ∷ items) are least most small = named_more stations n items are least most small

said_more : (stations : ℕ) (line : Typed) (items : List Item) → AreNamed stations items → AreNamed stations (items ++ said line ∷ [])
said_more stations line [] are = tt
said_more stations line (named m ∷ items) are = (are.0, are.1, are.2, said_more stations line items are.3)
said_more stations line (said other ∷ items) are = said_more stations line items are

-- a station is given the keyboard, and this is what was read
pub hearing_named : (first hearings : List Hearing) (lists next : List (List ℕ)) (seated n : ℕ) → IsHearing first hearings (map item_of_numbers lists) seated → IsNumbered n hearings → n < 2 ^ 64
    → next ≡ lists ++ numbers_of_item (named n) ∷ [] → IsHearing first hearings (map item_of_numbers next) n
hearing_named first hearings lists next seated n is numbered small more =
    let items = map item_of_numbers lists in
    let now : map item_of_numbers next ≡ items ++ named n ∷ [] = ap (map item_of_numbers) more ∙ item_more lists (named n) in
    subst (λ (read : List Item). IsHearing first hearings read n) (sym now)
    (record { each = heard_named items first hearings n is.each; seat = sym (seated_named 1 n items); are_named = named_more (length hearings) n items is.are_named numbered.0 numbered.1 small })

-- the station that has the keyboard said a line, and this is what was read
pub hearing_said : (first old new : List Hearing) (lists next : List (List ℕ)) (seated : ℕ) (line : Typed) → IsHearing first old (map item_of_numbers lists) seated
    → IsSaidNow seated line old new → next ≡ lists ++ numbers_of_item (said line) ∷ [] → IsHearing first new (map item_of_numbers next) seated
hearing_said first old new lists next seated line is says more =
    let items = map item_of_numbers lists in
    let now : map item_of_numbers next ≡ items ++ said line ∷ [] = ap (map item_of_numbers) more ∙ item_more lists (said line) in
    subst (λ (read : List Item). IsHearing first new read seated) (sym now)
    (record { each = says.each items first is.each is.seat; seat = is.seat ∙ sym (seated_said 1 line items); are_named = subst (λ (k : ℕ). AreNamed k (items ++ said line ∷ [])) (sym says.many) (said_more (length old) line items is.are_named) })

-- it was looked for lines
pub hearing_again : (first old new : List Hearing) (items : List Item) (seated : ℕ) → IsHearing first old items seated → IsHeardAgain old new → IsHearing first new items seated
hearing_again first old new items seated is again = record { each = again.each items first is.each; seat = is.seat; are_named = subst (λ (k : ℕ). AreNamed k items) (sym again.many) is.are_named }

-- the number of the station of an index
pub numbered_at : (hearings : List Hearing) (k : ℕ) (h : Hearing) → k < length hearings → get_or hearings k h ≡ h → (items : List Item) (first : List Hearing) → AreHeardFrom items 1 first hearings → IsNumbered h.station hearings
numbered_at hearings k h inside at items first are = let number = station_at items first hearings k h are inside at in (omega (arith, number), omega (arith, number, inside))
