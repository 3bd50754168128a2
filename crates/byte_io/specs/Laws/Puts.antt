-- Bytes that are put into a writer one after the other.
use Rattle.std.proofs.Common.{◌≡◌, Option, List, ℕ, [], ◌++◌, ap, sym, ◌∙◌, append_assoc}
use Rattle.std.proofs.lemmas.List.{append-nil}
use Rattle.byte_io.specs.Writer.{Wanted, more, due}
use Rattle.byte_io.specs.Sink.{grown}

abbrev with_put : Wanted → List ℕ → Wanted
with_put w put = record { begun = w.begun; put = put; failures = w.failures }

pub more_then : (w : Wanted) (xs ys : List ℕ) → more (more w xs) ys ≡ more w (xs ++ ys)
more_then w xs ys = ap (with_put w) (append_assoc w.put xs ys)

pub more_nil : (w : Wanted) → more w [] ≡ w
more_nil w = ap (with_put w) (append-nil w.put)

-- one more part, of what was left
pub more_left : (w whole : Wanted) (here left all : List ℕ) → all ≡ here ++ left → more w all ≡ whole → more (more w here) left ≡ whole
more_left w whole here left all is given = more_then w here left ∙ ap (more w) (sym is) ∙ given

pub more_both : (w : Wanted) (a b whole : List ℕ) → a ++ b ≡ whole → more (more w a) b ≡ more w whole
more_both w a b whole is = more_then w a b ∙ ap (more w) is

-- what a writer into which nothing was put before is due to bring to its sink
pub due_all : (w v : Wanted) (begun : Option (List ℕ)) (failures : Option ℕ) (bytes : List ℕ) → v ≡ more w bytes → w ≡ record { begun = begun; put = []; failures = failures } → due v ≡ grown begun bytes
due_all w v begun failures bytes put new = ap due put ∙ ap (λ (x : Wanted). due (more x bytes)) new

-- one part after another, as the calls tell
pub more_parts : (w v u : Wanted) (a b whole : List ℕ) → u ≡ more v b → v ≡ more w a → a ++ b ≡ whole → u ≡ more w whole
more_parts w v u a b whole second first is = second ∙ ap (λ (x : Wanted). more x b) first ∙ more_both w a b whole is

pub more_all_three : (w : Wanted) (a b c whole : List ℕ) → (a ++ b) ++ c ≡ whole → more (more (more w a) b) c ≡ more w whole
more_all_three w a b c whole is = ap (λ (v : Wanted). more v c) (more_then w a b) ∙ more_both w (a ++ b) c whole is
