-- Answers that are printed.
use Rattle.std.proofs.Common.{◌≡◌, ◌∙◌, Bool, true, false, ◌&&◌, ℕ, List, [], ◌∷◌, ◌++◌, refl, sym, ap, subst, append_assoc}
use Rattle.std.specs.Prelude.{Option, Some, None}
use Rattle.std.specs.Io.KnownBytes.{Appends}
use Rattle.std.proofs.KnownBytes.{Appends-nil, Appends-trans}
use Rattle.std.proofs.lemmas.List.{append-nil}
use Rattle.live_program.specs.Consoles.{shown_text, AppendsFront}
use Rattle.live_program.proofs.PrintingLaws.{front_after, front_before}
use Rattle.live_stations.specs.Handed.{printed_text, HasShown, HasTaken, IsPrintedAt}

-- Lines were taken and printed, one after another.
pub record HavePrinted (text text_then : Option (List ℕ)) (taken taken_then : List (List ℕ)) : Type 0 where
  pub lines : List (List ℕ)
  pub more : taken_then ≡ taken ++ lines
  pub gone : Appends text text_then (printed_text lines)

pub none_printed : (text : Option (List ℕ)) (taken : List (List ℕ)) → HavePrinted text text taken taken
none_printed text taken = record { lines = []; more = sym (append-nil taken); gone = Appends-nil text }

printed_more : (lines : List (List ℕ)) (line : List ℕ) → printed_text (lines ++ line ∷ []) ≡ printed_text lines ++ shown_text line
printed_more [] line = append-nil (shown_text line)
printed_more (l ∷ lines) line = ap (λ (t : List ℕ). shown_text l ++ t) (printed_more lines line) ∙ sym (append_assoc (shown_text l) (printed_text lines) (shown_text line))

-- one line more
pub one_printed : (text mid next : Option (List ℕ)) (taken taken_mid taken_next : List (List ℕ)) (line : List ℕ) → HavePrinted text mid taken taken_mid → taken_next ≡ taken_mid ++ line ∷ []
    → Appends mid next (shown_text line) → HavePrinted text next taken taken_next
one_printed text mid next taken taken_mid taken_next line has more gone = record {
  lines = has.lines ++ line ∷ [];
  more = more ∙ ap (λ (ls : List (List ℕ)). ls ++ line ∷ []) has.more ∙ append_assoc taken has.lines (line ∷ []);
  gone = subst (Appends text next) (sym (printed_more has.lines line)) (Appends-trans text mid next (printed_text has.lines) (shown_text line) has.gone gone);
}

-- no line comes any more
pub all_taken : (text mid : Option (List ℕ)) (taken taken_mid taken_next : List (List ℕ)) → HavePrinted text mid taken taken_mid → taken_next ≡ taken_mid → HasTaken text mid taken taken_next true
all_taken text mid taken taken_mid taken_next has same = record { lines = has.lines; more = same ∙ has.more; shown = has.gone }

-- a line can't be printed
pub part_taken : (text mid next : Option (List ℕ)) (taken taken_mid taken_next : List (List ℕ)) (line : List ℕ) → HavePrinted text mid taken taken_mid → taken_next ≡ taken_mid ++ line ∷ []
    → AppendsFront mid next (shown_text line) → HasTaken text next taken taken_next false
part_taken text mid next taken taken_mid taken_next line has more front = record {
  lines = has.lines ++ line ∷ [];
  more = more ∙ ap (λ (ls : List (List ℕ)). ls ++ line ∷ []) has.more ∙ append_assoc taken has.lines (line ∷ []);
  shown = subst (AppendsFront text next) (sym (printed_more has.lines line)) (front_after text mid next (printed_text has.lines) (shown_text line) has.gone front);
}

printed_both : (xs ys : List (List ℕ)) → printed_text (xs ++ ys) ≡ printed_text xs ++ printed_text ys
printed_both [] ys = refl
printed_both (x ∷ xs) ys = ap (λ (t : List ℕ). shown_text x ++ t) (printed_both xs ys) ∙ sym (append_assoc (shown_text x) (printed_text xs) (printed_text ys))

-- of more lines the first text was printed
shown_front : (start now : Option (List ℕ)) (lines more : List (List ℕ)) (all : Bool) → HasShown start now lines all → HasShown start now (lines ++ more) false
shown_front start now lines more true shown =
    record { front = printed_text lines; others = printed_text more; order = printed_both lines more; gone = shown }
shown_front start now lines more false shown =
    subst (AppendsFront start now) (sym (printed_both lines more)) (front_before start now (printed_text lines) (printed_text more) shown)

pub both_true : (a b : Bool) → (a && b) ≡ true → (a ≡ true) × (b ≡ true)
both_true true b e = (refl, e)
both_true false b e = absurd (cc)

-- more lines are to be printed than these; all are said to be only where all of these were, and there are no others
pub printed_again : {W : Type 0} (contents : W → Option (List ℕ)) (start : Option (List ℕ)) (screen : Option W) (lines known more : List (List ℕ)) (all less : Bool)
    → (less ≡ true → (all ≡ true) × (more ≡ lines)) → more ≡ lines ++ known → IsPrintedAt contents start screen lines all → IsPrintedAt contents start screen more less
printed_again contents start None lines known more all less both split at = λ (e : less ≡ true). (both e).1 ∙ at (both e).0
printed_again contents start (Some screen) lines known more all true both split at =
    let are = both refl in
    subst (λ (ls : List (List ℕ)). HasShown start (contents screen) ls true) (sym are.1) (subst (λ (b : Bool). HasShown start (contents screen) lines b) are.0 at)
printed_again contents start (Some screen) lines known more all false both split at =
    subst (λ (ls : List (List ℕ)). HasShown start (contents screen) ls false) (sym split) (shown_front start (contents screen) lines known all at)

-- nothing had come before, and this stood on the screen
pub shown_there : (start first now : Option (List ℕ)) (taken taken_then : List (List ℕ)) (all : Bool) → first ≡ start → taken ≡ [] → HasTaken first now taken taken_then all
    → HasShown start now taken_then all
shown_there start first now taken taken_then all same none has =
    let lines : has.lines ≡ taken_then = sym (has.more ∙ ap (λ (ls : List (List ℕ)). ls ++ has.lines) none) in
    subst (λ (ls : List (List ℕ)). HasShown start now ls all) lines (subst (λ (s : Option (List ℕ)). HasShown s now has.lines all) same has.shown)
