-- When a log is that of a day that was closed.
use Rattle.std.proofs.Common.{◌≡◌, ◌≢◌, ◌∙◌, ℕ, List, [], ◌∷◌, ◌++◌, Option, Some, None, Bor, codes, sym, ap}
use Rattle.std.specs.Prelude.{MatchOption}
use Rattle.std.specs.Fmt.{decimal}
use Rattle.std.proofs.lemmas.List.{append_cancel_right}
use Rattle.std.proofs.lemmas.Option.{same_Some}
use Rattle.station_lines.specs.declared.script.format.TheConstants.{LF}
use Rattle.station_lines.specs.JournalLines.{IsNoNumber}
use Rattle.live_log.specs.declared.gates.TheConstants.{SHUT_GATE}
use Rattle.open_day.specs.OpenDay.{closed_log, TellsNoCount}

abbrev pub after_count : List ℕ
after_count = codes " commands" ++ LF ∷ []

-- a text that was cut before its last bytes
pub front_of : (text end : List ℕ) (found : Option (Bor (List ℕ))) (front : Bor (List ℕ)) → MatchOption found ((other : List ℕ) → text ≢ other ++ end) (λ x. text ≡ x.now ++ end)
    → found ≡ Some front → text ≡ front.now ++ end
front_of text end None front cuts is = absurd cc
front_of text end (Some x) front cuts is = cuts ∙ ap (λ (b : Bor (List ℕ)). b.now ++ end) (same_Some x front is)

tail_is : (gate : ℕ) (a b : List ℕ) → gate ∷ a ≡ gate ∷ b → a ≡ b
tail_is gate a b same = cc

-- no shut gate is first
pub no_gate : (log : List ℕ) → ((rest : List ℕ) → log ≢ SHUT_GATE ∷ rest) → TellsNoCount log
no_gate log none count small is = none (decimal count ++ after_count) is

-- after it the words are not last
pub no_end : (log rest : List ℕ) → log ≡ SHUT_GATE ∷ rest → ((front : List ℕ) → rest ≢ front ++ after_count) → TellsNoCount log
no_end log rest first none count small is = none (decimal count) (tail_is SHUT_GATE rest (decimal count ++ after_count) (sym first ∙ is))

-- no number stands before them
pub no_number : (log rest digits : List ℕ) → log ≡ SHUT_GATE ∷ rest → rest ≡ digits ++ after_count → IsNoNumber digits → TellsNoCount log
no_number log rest digits first last none count small is =
    none count small (append_cancel_right digits (decimal count) after_count (sym last ∙ tail_is SHUT_GATE rest (decimal count ++ after_count) (sym first ∙ is)))

pub is_closed : (log rest digits : List ℕ) (count : ℕ) → log ≡ SHUT_GATE ∷ rest → rest ≡ digits ++ after_count → digits ≡ decimal count → log ≡ closed_log count
is_closed log rest digits count first last number = first ∙ ap (λ (l : List ℕ). SHUT_GATE ∷ l) (last ∙ ap (λ (l : List ℕ). l ++ after_count) number)
