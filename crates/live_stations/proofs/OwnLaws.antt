-- What stations say asks for nothing of the keyboard.
use Rattle.std.proofs.Common.{◌≡◌, ◌≤◌, ◌<◌, Bool, true, false, ℕ, zero, suc, ◌+◌, ◌-◌, ◌==◌, List, [], ◌∷◌, ◌++◌, length, refl, subst, arith}
use Rattle.std.specs.Prelude.{map, take, Option}
use Rattle.std.specs.List.{AllByRecursion}
use Rattle.std.proofs.lemmas.Bool.Decides.{nat_tests}
use Rattle.live_day.specs.declared.keyboard.Typed.{Typed}
use Rattle.live_day.specs.declared.keyboard.Typed.TheVariants.{Text, TooLong, Cut}
use Rattle.live_day.specs.declared.wish.TheConstants.{STATION_WORD_BYTES}
use Rattle.live_day.specs.declared.wish.Wish.{Wish}
use Rattle.live_day.specs.declared.wish.Wish.TheVariants.{Station, Quit, Perform}
use Rattle.live_day.specs.Groups.{IsNoQuit}
use Rattle.live_day.specs.Sessions.{IsWishTyped}
use Rattle.live_day.specs.Shows.{ShownLine}
use Rattle.live_day.specs.Wishes.{is_station_word}
use Rattle.live_stations.specs.declared.day.StationLeft.{StationLeft}
use Rattle.live_stations.specs.Done.{AreNamed, AskNothing}
use Rattle.live_stations.specs.Items.{Item, named, said, as_own, if_said_by, lines_of, unless_station}
use Rattle.live_stations.specs.Pairs.{EachFrom}
use Rattle.live_stations.specs.Stations.{HaveLeft, IsLeft}

-- the line asks for nothing of the keyboard
abbrev AsksNothing : Typed → Type 0
AsksNothing line = (wish : Wish) → IsWishTyped line wish → wish ≡ Perform

own_text : (line : List ℕ) (b : Bool) → is_station_word (take STATION_WORD_BYTES line) ≡ b → IsNoQuit (Text line) → (wish : Wish) → IsWishTyped (unless_station b line) wish → wish ≡ Perform
own_text line true word unlike wish is = is
own_text line false word unlike Quit is = absurd (unlike is)
own_text line false word unlike (Station m) is = absurd (let other = is.1.0 in cc)
own_text line false word unlike Perform is = refl

own_line : (line : Typed) → IsNoQuit line → AsksNothing (as_own line)
own_line (Text line) unlike = own_text line (is_station_word (take STATION_WORD_BYTES line)) refl unlike
own_line TooLong unlike = λ wish is. is
own_line Cut unlike = λ wish is. is

own_lines : (lines : List Typed) → AllByRecursion IsNoQuit lines → AllByRecursion AsksNothing (map as_own lines)
own_lines [] all = tt
own_lines (l ∷ lines) all = (own_line l all.0, own_lines lines all.1)

all_front : {A : Type 0} (P : A → Type 0) (xs ys : List A) → AllByRecursion P (xs ++ ys) → AllByRecursion P xs
all_front P [] ys all = tt
all_front P (x ∷ xs) ys all = (all.0, all_front P xs ys all.1)

all_back : {A : Type 0} (P : A → Type 0) (xs ys : List A) → AllByRecursion P (xs ++ ys) → AllByRecursion P ys
all_back P [] ys all = all
all_back P (x ∷ xs) ys all = all_back P xs ys all.1

-- each line is one of the station that has the keyboard
said_own : (count seated : ℕ) (items : List Item) → AreNamed count items → 1 ≤ seated → seated ≤ count → ((n : ℕ) → 1 ≤ n → n ≤ count → AllByRecursion AsksNothing (lines_of n seated items)) → AskNothing items
said_own count seated [] are least most all = tt
said_own count seated (named m ∷ items) are least most all = said_own count m items are.3 are.0 are.1 all
said_own count seated (said line ∷ items) are least most all =
    let itself : (seated == seated) ≡ true = grind (arith, nat_tests) in
    let here = subst (λ (b : Bool). AllByRecursion AsksNothing (if_said_by b line ++ lines_of seated seated items)) itself (all seated least most) in
    (here.0, said_own count seated items are least most (λ n low high. all_back AsksNothing (if_said_by (seated == n) line) (lines_of n seated items) (all n low high)))

left_at : {A : Type 0} (P : ℕ → A → Type 0) (n k : ℕ) (xs : List A) → EachFrom P n xs → k < length xs → (x : A) × P (n + k) x
left_at P n k [] each inside = absurd (omega (arith, inside))
left_at P n zero (x ∷ xs) each inside = (x, subst (λ (m : ℕ). P m x) (let same : n ≡ n + 0 = omega arith in same) each.0)
left_at P n (suc k) (x ∷ xs) each inside =
    let rest = left_at P (n + 1) k xs each.1 (omega (arith, inside)) in
    (rest.0, subst (λ (m : ℕ). P m rest.0) (let same : (n + 1) + k ≡ n + suc k = omega arith in same) rest.1)

-- what was read of stations asks for nothing
pub own_of_left : {K W : Type 0} (typed : K → List Typed) (contents : W → Option (List ℕ)) (types reads : ℕ → Option (List ℕ)) (items : List Item) (shown : List ShownLine) (all_heard : Bool) (count : ℕ) (stations : List (StationLeft K W))
    → AreNamed count items → 1 ≤ count → HaveLeft typed contents types reads items shown all_heard stations → length stations ≡ count → AskNothing items
own_of_left typed contents types reads items shown all_heard count stations are some each many =
    said_own count 1 items are (omega arith) some
    (λ n low high.
    let found = left_at (λ k l. IsLeft typed contents types reads items shown all_heard k l) 1 (n - 1) stations each (omega (arith, low, high, many)) in
    let number : 1 + (n - 1) ≡ n = omega (arith, low) in
    let left = subst (λ (k : ℕ). IsLeft typed contents types reads items shown all_heard k found.0) number found.1 in
    all_front AsksNothing (lines_of n 1 items) left.unread (subst (AllByRecursion AsksNothing) left.read (own_lines left.lines left.own)))
