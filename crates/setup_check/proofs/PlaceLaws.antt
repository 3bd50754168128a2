-- Where the first table of each name stands, with one entry more.
use Rattle.std.proofs.Common.{◌≡◌, ℕ, ◌+◌, Bool, true, false, cond, List, [], ◌∷◌, ◌++◌, length, Option, Some, None, Result, Ok, Err, is_some, refl, sym, ap, ◌∙◌, arith, add-zero}
use Rattle.std.specs.Prelude.{OnOk, bytes_eq}
use Rattle.std.specs.List.{position, position_from}
use Rattle.std.specs.Map.{lookup}
use Rattle.std.specs.Option.{option_or}
use Rattle.std.proofs.lemmas.Bool.{false≢true}
use Rattle.std.proofs.lemmas.Iterator.Adapters.{position_from-zero}
use Rattle.std.proofs.lemmas.Slice.Eq.{bytes_eq-Decides}
use Rattle.station_lines.specs.declared.setup.entry.SetupEntry.{SetupEntry}
use Rattle.station_lines.specs.declared.setup.entry.SetupEntry.TheVariants.{Table, Index, Station}
use Rattle.station_lines.specs.Setup.{is_table_of}
use Rattle.setup_check.specs.declared.table_places.TablePlaces.{TablePlaces}
use Rattle.setup_check.specs.Findings.{first_table}
use Rattle.setup_check.specs.TablePlaces.{place_of, ArePlacesIn, HasPlace}

-- ---- the first of a list with one element more

-- what passes at the head, or what is found behind it
from_more : (b passes : Bool) (i n m : ℕ) (before after : Option ℕ) → n ≡ m → after ≡ option_or before (cond passes (Some n) None)
    → cond b (Some i) after ≡ option_or (cond b (Some i) before) (cond passes (Some m) None)
from_more true passes i n m before after e h = refl
from_more false passes i n m before after e h = h ∙ ap (λ (k : ℕ). option_or before (cond passes (Some k) None)) e

from_last : {X : Type 0} (p : X → Bool) (i : ℕ) (xs : List X) (x : X)
    → position_from p i (xs ++ x ∷ []) ≡ option_or (position_from p i xs) (cond (p x) (Some (i + length xs)) None)
from_last p i [] x = ap (λ (n : ℕ). cond (p x) (Some n) None) (sym (add-zero i))
from_last p i (y ∷ ys) x =
    let n : (i + 1) + length ys ≡ i + length (y ∷ ys) = omega arith in
    from_more (p y) (p x) i ((i + 1) + length ys) (i + length (y ∷ ys)) (position_from p (i + 1) ys) (position_from p (i + 1) (ys ++ x ∷ [])) n (from_last p (i + 1) ys x)

position_last : {X : Type 0} (p : X → Bool) (xs : List X) (x : X) → position p (xs ++ x ∷ []) ≡ option_or (position p xs) (cond (p x) (Some (length xs)) None)
position_last p xs x =
    let n : 0 + length xs ≡ length xs = omega arith in
    position_from-zero p (xs ++ x ∷ []) ∙ (from_last p 0 xs x
    ∙ (ap (λ (o : Option ℕ). option_or o (cond (p x) (Some (0 + length xs)) None)) (sym (position_from-zero p xs))
    ∙ ap (λ (k : ℕ). option_or (position p xs) (cond (p x) (Some k) None)) n))

-- the value of a key, with one entry more
lookup_from : {K X : Type 0} (test : K → Bool) (b : Bool) (own : X) (es : List (K × X)) (k : K) (v : X)
    → lookup test (es ++ (k, v) ∷ []) ≡ option_or (lookup test es) (cond (test k) (Some v) None)
    → cond b (Some own) (lookup test (es ++ (k, v) ∷ [])) ≡ option_or (cond b (Some own) (lookup test es)) (cond (test k) (Some v) None)
lookup_from test true own es k v h = refl
lookup_from test false own es k v h = h

pub lookup_last : {K X : Type 0} (test : K → Bool) (es : List (K × X)) (k : K) (v : X)
    → lookup test (es ++ (k, v) ∷ []) ≡ option_or (lookup test es) (cond (test k) (Some v) None)
lookup_last test [] k v = refl
lookup_last test (e ∷ es) k v = lookup_from test (test e.0) e.1 es k v (lookup_last test es k v)

-- ---- one entry more

or_none : (o : Option ℕ) → o ≡ option_or o None
or_none None = refl
or_none (Some n) = refl

-- of a table
pub table_placed : {T E : Type 0} (r : Result T E) (old new : TablePlaces) (entries : List SetupEntry) (own dbf : List ℕ) (dbt : Option (List ℕ)) (place : ℕ)
    → OnOk r (HasPlace old own place new) → place ≡ length entries → ArePlacesIn old entries → OnOk r (ArePlacesIn new (entries ++ Table own dbf dbt ∷ []))
table_placed (Ok x) old new entries own dbf dbt place has is are = λ name.
    has name ∙ (ap (λ (o : Option ℕ). option_or o (cond (bytes_eq own name) (Some place) None)) (are name)
    ∙ (ap (λ (n : ℕ). option_or (first_table name entries) (cond (bytes_eq own name) (Some n) None)) is
    ∙ sym (position_last (is_table_of name) entries (Table own dbf dbt))))
table_placed (Err y) old new entries own dbf dbt place has is are = tt

-- of another entry
unplaced : (places : TablePlaces) (entries : List SetupEntry) (entry : SetupEntry) → ((name : List ℕ) → is_table_of name entry ≡ false)
    → ArePlacesIn places entries → ArePlacesIn places (entries ++ entry ∷ [])
unplaced places entries entry none are name =
    are name ∙ (or_none (first_table name entries)
    ∙ (ap (λ (b : Bool). option_or (first_table name entries) (cond b (Some (length entries)) None)) (sym (none name))
    ∙ sym (position_last (is_table_of name) entries entry)))

pub index_unplaced : (places : TablePlaces) (entries : List SetupEntry) (table name ndx : List ℕ) → ArePlacesIn places entries → ArePlacesIn places (entries ++ Index table name ndx ∷ [])
index_unplaced places entries table name ndx are = unplaced places entries (Index table name ndx) (λ n. refl) are

pub station_unplaced : (places : TablePlaces) (entries : List SetupEntry) (script : List ℕ) → ArePlacesIn places entries → ArePlacesIn places (entries ++ Station script ∷ [])
station_unplaced places entries script are = unplaced places entries (Station script) (λ n. refl) are

-- ---- a name of which a place is known, or none is

known_or : (places : TablePlaces) (own name : List ℕ) (place : ℕ) (same : Bool) (found : Option ℕ) → bytes_eq own name ≡ same → place_of places name ≡ found
    → is_some (place_of places own) ≡ true → found ≡ option_or found (cond same (Some place) None)
known_or places own name place same (Some n) e f known = refl
known_or places own name place false None e f known = refl
known_or places own name place true None e f known =
    let is : own ≡ name = (bytes_eq-Decides own name).0 e in
    absurd (false≢true (sym (ap is_some f) ∙ (ap (λ (n : List ℕ). is_some (place_of places n)) (sym is) ∙ known)))

-- where one is known, nothing changes
pub known_stays : (places : TablePlaces) (own : List ℕ) (place : ℕ) → is_some (place_of places own) ≡ true → HasPlace places own place places
known_stays places own place known = λ name. known_or places own name place (bytes_eq own name) (place_of places name) refl refl known

pub not_known : (found : Option ℕ) → is_some found ≡ false → found ≡ None
not_known None e = refl
not_known (Some n) e = absurd (false≢true (sym e))

flips : (a b : List ℕ) (one other : Bool) → bytes_eq a b ≡ one → bytes_eq b a ≡ other → one ≡ other
flips a b true true e f = refl
flips a b true false e f = absurd (false≢true (sym f ∙ (bytes_eq-Decides b a).1 (sym ((bytes_eq-Decides a b).0 e))))
flips a b false true e f = absurd (false≢true (sym e ∙ (bytes_eq-Decides a b).1 (sym ((bytes_eq-Decides b a).0 f))))
flips a b false false e f = refl

-- where none is, the name's comes last
pub new_placed : {K : Type 0} (old new : List (K × ℕ)) (key : K) (bytes : K → List ℕ) (own : List ℕ) (place : ℕ) → bytes key ≡ own
    → new ≡ old ++ (key, place) ∷ [] → (name : List ℕ)
    → lookup (λ k. bytes_eq name (bytes k)) new ≡ option_or (lookup (λ k. bytes_eq name (bytes k)) old) (cond (bytes_eq own name) (Some place) None)
new_placed old new key bytes own place is added name =
    ap (lookup (λ k. bytes_eq name (bytes k))) added ∙ (lookup_last (λ k. bytes_eq name (bytes k)) old key place
    ∙ ap (λ (b : Bool). option_or (lookup (λ k. bytes_eq name (bytes k)) old) (cond b (Some place) None))
    (ap (bytes_eq name) is ∙ flips name own (bytes_eq name own) (bytes_eq own name) refl refl))
