-- What a program's words ask for, from what `clap` has read of them; and an option that wants another one.
use Rattle.std.proofs.Common.{◌≡◌, ◌∙◌, ap, ap₂, refl, arith, subst, sym, ℕ, suc, Bool, true, false, not, ◌&&◌, List, [], ◌∷◌, ◌++◌, length, Result, Ok, Err, IfErr, IsErrAnd}
use Rattle.std.proofs.lemmas.Bool.{ne_eqb}
use Rattle.std.specs.Borrow.{Bor}
use Rattle.clap.specs.Walk.{is_empty}
use Rattle.clap.specs.Words.{App, HasMatchesOf, Row, Rule, Text, is_simple, matches_of, rule_of}
use Rattle.clap.specs.declared.builder.arg.Arg.{Arg}
use Rattle.clap.specs.declared.builder.arg.ArgPredicate.{ArgPredicate}
use Rattle.clap.specs.declared.parser.matches.ArgMatches.{ArgMatches}
use Rattle.program_frame.specs.CommandLine.{option_rows}
use Rattle.program_frame.specs.declared.ending.Ending.{Ending}

-- ---- the words

-- what holds of the rows that were read holds of those of the words
pub by_words : (P : List Row → Type 0) (own app : App) (words : List Text) (matches : ArgMatches) → is_simple own ≡ true → app ≡ own → HasMatchesOf app words matches → P (option_rows matches) → P (matches_of own words)
by_words P own app words matches simple e h of_rows =
    let rows : option_rows matches ≡ matches_of own words = (h (ap is_simple e ∙ simple)).0 ∙ ap (λ (a : App). matches_of a words) e in
    subst P rows of_rows

-- what holds of an end holds where it is told
pub told_end : {T F : Type 0} (P : Ending F → Type 0) (told : Result T (Ending F)) (why : Ending F) → IsErrAnd told (λ ending. ending ≡ why) → P why → IfErr told P
told_end P (Ok x) why is of_why = tt
told_end P (Err ending) why is of_why = subst P (sym is) of_why

-- ---- an option that wants another one

-- what wants another argument is not free
not_free : {X : Type 0} (e c : Bool) (xs : List X) (x : X) (rest : Bool) → (not e && (c && (is_empty (xs ++ x ∷ []) && rest))) ≡ false
not_free true c xs x rest = refl
not_free false false xs x rest = refl
not_free false true [] x rest = refl
not_free false true (y ∷ ys) x rest = ap (λ (empty : Bool). empty && rest) (ne_eqb (suc (length (ys ++ x ∷ []))) 0 (λ e. omega arith))

-- an option to which it is added that it wants another one
pub wants_another : (base : Rule) (r b : Arg) (x : ArgPredicate × Bor (List ℕ)) → r ≡ record b { needs = r.needs } → r.needs.items ≡ b.needs.items ++ x ∷ []
    → rule_of b ≡ base → rule_of r ≡ record base { is_free = false }
wants_another base r b x e n h =
    let wants = ap (λ (xs : List (ArgPredicate × Bor (List ℕ))). not b.exclusive && (is_empty b.conflicts.items && (is_empty xs && (is_empty b.r_ifs.items
    && (is_empty b.r_ifs_all.items && (is_empty b.r_unless.items && is_empty b.r_unless_all.items)))))) n ∙ not_free b.exclusive _ b.needs.items x _ in
    ap rule_of e ∙ ap₂ (λ (w : Rule) (free : Bool). record w { is_free = free }) h wants
