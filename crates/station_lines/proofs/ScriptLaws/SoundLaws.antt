-- What the reader makes of words is what they say, or Bad.
use Rattle.std.proofs.Common.{◌≡◌, ℕ, List, [], ◌∷◌, Bool, true, false, cond, ◌&&◌, Option, Some, None, refl, subst}
use Rattle.std.specs.Prelude.{◌⊎◌, codes, find}
use mathlib.Core.Logic.{inl, inr}
use Rattle.std.proofs.lemmas.Bool.{and_parts}
use Rattle.station_lines.specs.declared.script.call.CallName.{CallName}
use Rattle.station_lines.specs.declared.script.call.CallName.TheVariants as call_name
use Rattle.station_lines.specs.declared.script.call.TheConstants.{CALLS}
use Rattle.station_lines.specs.declared.script.line.Line.{Line}
use Rattle.station_lines.specs.declared.script.verb.Verb.{Verb}
use Rattle.station_lines.specs.declared.script.verb.Verb.TheVariants as verb
use Rattle.station_lines.specs.Script.Parts.{is_keyword, is_call, call_text, name_in, count_in, distance_in, between_commas}
use Rattle.station_lines.specs.Script.Meaning.{IsPart, Says}
use Rattle.station_lines.specs.Script.Reading.{text_in, literal_in, counts_in, arguments_in, first_some, list_line, bad, with_, one, go_line, locks_line, call_in, call_line, ask_of, two, three, four}
use Rattle.station_lines.proofs.ScriptLaws.TextLaws.{text_is}
use Rattle.station_lines.proofs.ScriptLaws.LiteralLaws.{literal_is}
use Rattle.station_lines.proofs.ScriptLaws.ListLaws.{list_is}
use Rattle.station_lines.proofs.ScriptLaws.VerbLaws.{spelling}

-- a line that is Bad, or what the words say
abbrev pub IsSaid : List (List ℕ) → Line → Type 0
IsSaid words line = (line ≡ bad) ⊎ Says words line

pub of_value : {X : Type 0} (words : List (List ℕ)) (o : Option X) (make : X → Line) → ((x : X) → o ≡ Some x → IsSaid words (make x)) → IsSaid words (with_ o make)
of_value words None make h = inl refl
of_value words (Some x) make h = h x refl

of_test : (words : List (List ℕ)) (q : Bool) (x y : Line) → (q ≡ true → IsSaid words x) → IsSaid words y → IsSaid words (cond q x y)
of_test words true x y f g = f refl
of_test words false x y f g = g

pub one_said : (v : Verb) (a : List ℕ) → IsPart (spelling v) a → IsSaid (a ∷ []) (one v)
one_said verb.Use a h = inr (h, tt)
one_said verb.Skip a h = inr (inr ((h, tt), refl))
one_said verb.Delete a h = inr (h, tt)
one_said verb.Recall a h = inr (h, tt)
one_said verb.Pack a h = inr (h, tt)
one_said verb.Unlock a h = inr (h, tt)
one_said v a h = inl refl

go_said : (a b : List ℕ) → IsPart (spelling verb.Go) a → IsSaid (a ∷ b ∷ []) (go_line b)
go_said a b h =
    of_test (a ∷ b ∷ []) (is_keyword (codes "TOP") b) _ _ (λ e. inr (h, (e, tt))) (
    of_test (a ∷ b ∷ []) (is_keyword (codes "BOTTOM") b) _ _ (λ e. inr (h, (e, tt))) (
    of_value (a ∷ b ∷ []) (count_in b) _ (λ n e. inr (h, (e, tt)))))

-- a list in the parentheses of RLOCK or of LOCK
list_said : (a b : List ℕ) (inside : List ℕ) → IsPart (spelling verb.Ask) a → (arguments_in (codes "RLOCK(") b ≡ Some inside) ⊎ (arguments_in (codes "LOCK(") b ≡ Some inside) → IsSaid (a ∷ b ∷ []) (list_line (Some inside))
list_said a b inside h (inl e) = of_value (a ∷ b ∷ []) (counts_in (between_commas inside)) _ (λ ns f. inr (h, (inl (list_is (codes "RLOCK(") b inside ns e f), tt)))
list_said a b inside h (inr e) = of_value (a ∷ b ∷ []) (counts_in (between_commas inside)) _ (λ ns f. inr (h, (inr (list_is (codes "LOCK(") b inside ns e f), tt)))

locks_said_by : (a b : List ℕ) → IsPart (spelling verb.Ask) a → (o p : Option (List ℕ)) → arguments_in (codes "RLOCK(") b ≡ o → arguments_in (codes "LOCK(") b ≡ p → IsSaid (a ∷ b ∷ []) (list_line (first_some o p))
locks_said_by a b h None None e f = inl refl
locks_said_by a b h None (Some inside) e f = list_said a b inside h (inr f)
locks_said_by a b h (Some inside) p e f = list_said a b inside h (inl e)

locks_said : (a b : List ℕ) → IsPart (spelling verb.Ask) a → IsSaid (a ∷ b ∷ []) (locks_line b)
locks_said a b h = locks_said_by a b h (arguments_in (codes "RLOCK(") b) (arguments_in (codes "LOCK(") b) refl refl

found_by : {X : Type 0} (p : X → Bool) (x y : X) (rest : Option X) (q : Bool) → p y ≡ q → (rest ≡ Some x → p x ≡ true) → cond q (Some y) rest ≡ Some x → p x ≡ true
found_by p x y rest true is later e = let same : y ≡ x = cc in subst (λ (z : _). p z ≡ true) same is
found_by p x y rest false is later e = later e

-- what is found passes the test
pub found_is : {X : Type 0} (p : X → Bool) (xs : List X) (x : X) → find p xs ≡ Some x → p x ≡ true
found_is p [] x e = absurd cc
found_is p (y ∷ ys) x e = found_by p x y (find p ys) (p y) refl (found_is p ys x) e

call_said : (a b : List ℕ) → IsPart (spelling verb.Ask) a → (o : Option CallName) → call_in b ≡ o → IsSaid (a ∷ b ∷ []) (call_line o b)
call_said a b h None e = locks_said a b h
call_said a b h (Some call_name.Rlock) e = inr (h, (inl (found_is (λ c. is_call (call_text c) b) CALLS call_name.Rlock e), tt))
call_said a b h (Some call_name.Lock) e = inr (h, (inr (found_is (λ c. is_call (call_text c) b) CALLS call_name.Lock e), tt))
call_said a b h (Some c) e = inr (h, (found_is (λ d. is_call (call_text d) b) CALLS c e, tt))

ask_said : (a b : List ℕ) → IsPart (spelling verb.Ask) a → (o : Option (List ℕ)) → name_in b ≡ o → IsSaid (a ∷ b ∷ []) (ask_of o b)
ask_said a b h None e = call_said a b h (call_in b) refl
ask_said a b h (Some name) e = inr (h, (e, tt))

pub two_said : (v : Verb) (a b : List ℕ) → IsPart (spelling v) a → IsSaid (a ∷ b ∷ []) (two v b)
two_said verb.Select a b h = of_value (a ∷ b ∷ []) (count_in b) _ (λ n e. inr (h, (e, tt)))
two_said verb.Use a b h = of_value (a ∷ b ∷ []) (name_in b) _ (λ n e. inr (h, (e, tt)))
two_said verb.Go a b h = go_said a b h
two_said verb.Skip a b h = of_value (a ∷ b ∷ []) (distance_in b) _ (λ n e. inr (inl (h, (e, tt))))
two_said verb.Seek a b h = of_value (a ∷ b ∷ []) (text_in b) _ (λ t e. inr (h, (text_is b t e, tt)))
two_said verb.Append a b h = of_test (a ∷ b ∷ []) (is_keyword (codes "BLANK") b) _ _ (λ e. inr (h, (e, tt))) (inl refl)
two_said verb.Unlock a b h = of_test (a ∷ b ∷ []) (is_keyword (codes "ALL") b) _ _ (λ e. inr (h, (e, tt))) (inl refl)
two_said verb.Ask a b h = ask_said a b h (name_in b) refl
two_said verb.Display a b h = of_test (a ∷ b ∷ []) (is_keyword (codes "STATUS") b) _ _ (λ e. inr (h, (e, tt))) (inl refl)
two_said v a b h = inl refl

pub three_said : (v : Verb) (a b c : List ℕ) → IsPart (spelling v) a → IsSaid (a ∷ b ∷ c ∷ []) (three v b c)
three_said verb.Use a b c h =
    of_test (a ∷ b ∷ c ∷ []) (is_keyword (codes "EXCLUSIVE") c) _ _ (λ e.
    of_value (a ∷ b ∷ c ∷ []) (name_in b) _ (λ n f. inr (h, (f, (e, tt))))) (inl refl)
three_said v a b c h = inl refl

pub four_said : (v : Verb) (a b c d : List ℕ) → IsPart (spelling v) a → IsSaid (a ∷ b ∷ c ∷ d ∷ []) (four v b c d)
four_said verb.Set a b c d h =
    of_test (a ∷ b ∷ c ∷ d ∷ []) (is_keyword (codes "ORDER") b && is_keyword (codes "TO") c) _ _ (λ e.
    let p = and_parts (is_keyword (codes "ORDER") b) (is_keyword (codes "TO") c) e in
    of_value (a ∷ b ∷ c ∷ d ∷ []) (count_in d) _ (λ n f. inr (h, (p.0, (p.1, (f, tt)))))) (inl refl)
four_said verb.Replace a b c d h =
    of_test (a ∷ b ∷ c ∷ d ∷ []) (is_keyword (codes "WITH") c) _ _ (λ e.
    of_value (a ∷ b ∷ c ∷ d ∷ []) (name_in b) _ (λ n f.
    of_value (a ∷ b ∷ c ∷ d ∷ []) (literal_in d) _ (λ l g. inr (h, (f, (e, (literal_is d l g, tt))))))) (inl refl)
four_said verb.Memo a b c d h =
    of_test (a ∷ b ∷ c ∷ d ∷ []) (is_keyword (codes "WITH") c) _ _ (λ e.
    of_value (a ∷ b ∷ c ∷ d ∷ []) (name_in b) _ (λ n f.
    of_value (a ∷ b ∷ c ∷ d ∷ []) (text_in d) _ (λ t g. inr (h, (f, (e, (text_is d t g, tt))))))) (inl refl)
four_said v a b c d h = inl refl
