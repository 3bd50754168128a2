-- How far bytes were printed.
use Rattle.std.proofs.Common.{◌≡◌, ◌∙◌, ℕ, ◌+◌, List, [], ◌++◌, length, take, drop, refl, sym, ap, subst, append_assoc}
use Rattle.std.specs.Io.KnownBytes.{Appends, Keeps}
use Rattle.std.proofs.KnownBytes.{Appends-kept, Appends-nil, Appends-trans}
use Rattle.std.proofs.Math.Seq.{take-add, take-length}
use Rattle.std.proofs.lemmas.List.{append-nil, take-append-drop}
use Rattle.std.specs.Prelude.{Option, None, Some}
use Rattle.live_program.specs.Consoles.{AppendsFront}

-- all of a text, as a first part of it
pub whole_front : (old now : Option (List ℕ)) (text : List ℕ) → Appends old now text → AppendsFront old now text
whole_front old now text gone = record { front = text; others = []; order = sym (append-nil text); gone = gone }

-- nothing of it
pub no_front : (old : Option (List ℕ)) (text : List ℕ) → AppendsFront old old text
no_front old text = record { front = []; others = text; order = refl; gone = Appends-nil old }

-- none were taken
pub none_kept : (old now : Option (List ℕ)) → Keeps old now → Appends old now []
none_kept old now kept = Appends-kept old old now [] (Appends-nil old) kept

pub kept_none : (old now : Option (List ℕ)) → Appends old now [] → Keeps old now
kept_none None now gone = tt
kept_none (Some x) None gone = absurd gone
kept_none (Some x) (Some y) gone = gone ∙ append-nil x

-- the first so many bytes were taken
pub front_of : (old now : Option (List ℕ)) (bytes : List ℕ) (n : ℕ) → Appends old now (take n bytes) → AppendsFront old now bytes
front_of old now bytes n gone = record { front = take n bytes; others = drop n bytes; order = sym (take-append-drop n bytes); gone = gone }

-- and nothing of a write that failed
pub front_kept : (old mid now : Option (List ℕ)) (bytes : List ℕ) (n : ℕ) → Appends old mid (take n bytes) → Keeps mid now → AppendsFront old now bytes
front_kept old mid now bytes n gone kept = front_of old now bytes n (Appends-kept old mid now (take n bytes) gone kept)

-- more of them were taken
pub taken_on : (old mid now : Option (List ℕ)) (bytes : List ℕ) (n count : ℕ) → Appends old mid (take n bytes) → Appends mid now (take count (drop n bytes)) → Appends old now (take (n + count) bytes)
taken_on old mid now bytes n count gone more =
    subst (Appends old now) (sym (take-add n count bytes)) (Appends-trans old mid now (take n bytes) (take count (drop n bytes)) gone more)

-- all of them were taken
pub taken_all : (old now : Option (List ℕ)) (bytes : List ℕ) (n : ℕ) → n ≡ length bytes → Appends old now (take n bytes) → Appends old now bytes
taken_all old now bytes n all gone = subst (Appends old now) (ap (λ (k : ℕ). take k bytes) all ∙ take-length bytes) gone

-- the first of a text are the first of a longer one
pub front_before : (old now : Option (List ℕ)) (text more : List ℕ) → AppendsFront old now text → AppendsFront old now (text ++ more)
front_before old now text more is = record {
  front = is.front;
  others = is.others ++ more;
  order = ap (λ (l : List ℕ). l ++ more) is.order ∙ append_assoc is.front is.others more;
  gone = is.gone;
}

-- a text was taken, and the first of what stands after it
pub front_after : (old mid now : Option (List ℕ)) (text more : List ℕ) → Appends old mid text → AppendsFront mid now more → AppendsFront old now (text ++ more)
front_after old mid now text more gone is = record {
  front = text ++ is.front;
  others = is.others;
  order = ap (λ (l : List ℕ). text ++ l) is.order ∙ sym (append_assoc text is.front is.others);
  gone = Appends-trans old mid now text is.front gone is.gone;
}
