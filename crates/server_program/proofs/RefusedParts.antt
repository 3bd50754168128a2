-- The stations whose commands were refused, one after another.
use Rattle.std.proofs.Common.{◌≡◌, ◌≢◌, ℕ, ◌+◌, ◌<◌, Bool, cond, List, [], ◌∷◌, ◌++◌, Option, length, take, get_or, sym, ap, subst, ◌∙◌, append_assoc, arith}
use Rattle.std.proofs.lemmas.Bool.{ne_eqb}
use Rattle.std.proofs.lemmas.List.{append-nil, length-take-le, take_more}
use Rattle.std.specs.Fmt.{decimal}
use Rattle.std.specs.Prelude.{codes}
use Rattle.std.specs.Io.KnownBytes.{Appends}
use Rattle.program_frame.proofs.Printing.{appends_then}
use Rattle.station_lines.specs.declared.script.format.TheConstants.{LF}
use Rattle.office_run.specs.declared.counts.CommandCounts.{CommandCounts}
use Rattle.server_program.specs.Endings.{refused_part, refused_parts, refused_text}

-- one station more
parts_more : (station : ℕ) (counts : List ℕ) (count : ℕ) → refused_parts station (counts ++ count ∷ []) ≡ refused_parts station counts ++ refused_part (station + length counts) count
parts_more station [] count = append-nil (refused_part station count) ∙ ap (λ (s : ℕ). refused_part s count) (omega arith)
parts_more station (first ∷ counts) count =
    ap (λ (l : List ℕ). refused_part station first ++ l) (parts_more (station + 1) counts count)
    ∙ sym (append_assoc (refused_part station first) (refused_parts (station + 1) counts) (refused_part (station + 1 + length counts) count))
    ∙ ap (λ (s : ℕ). (refused_part station first ++ refused_parts (station + 1) counts) ++ refused_part s count) (omega arith)

-- the first stations are printed, and then the next one
pub printed_more : (begun now new : Option (List ℕ)) (counts : List ℕ) (i : ℕ) → i < length counts → Appends begun now (refused_parts 1 (take i counts))
    → Appends now new (refused_part (i + 1) (get_or counts i 0)) → Appends begun new (refused_parts 1 (take (i + 1) counts))
printed_more begun now new counts i inside before next =
    let long : length (take i counts) ≡ i = length-take-le i counts (omega (arith, inside)) in
    let station : 1 + length (take i counts) ≡ i + 1 = omega (arith, long) in
    subst (Appends begun new)
    (sym (ap (refused_parts 1) (take_more counts i 0 inside) ∙ parts_more 1 (take i counts) (get_or counts i 0) ∙ ap (λ (s : ℕ). refused_parts 1 (take i counts) ++ refused_part s (get_or counts i 0)) station))
    (appends_then begun now new (refused_parts 1 (take i counts)) (refused_part (i + 1) (get_or counts i 0)) before next)

-- the line on refused commands, which is printed in three parts
pub refused_line : (counts : CommandCounts) (o a b q : Option (List ℕ)) → counts.refused ≢ 0
    → Appends o a (codes "station_server: " ++ (decimal counts.refused ++ codes " refused:")) → Appends a b (refused_parts 1 counts.refused_by_station.items) → Appends b q (LF ∷ [])
    → Appends o q (refused_text counts)
refused_line counts o a b q some front parts end =
    let name = codes "station_server: " in
    let number = decimal counts.refused in
    let word = codes " refused:" in
    let rest = refused_parts 1 counts.refused_by_station.items ++ LF ∷ [] in
    let joined : (name ++ (number ++ word)) ++ rest ≡ name ++ (number ++ (word ++ rest)) =
    append_assoc name (number ++ word) rest ∙ ap (λ (l : List ℕ). name ++ l) (append_assoc number word rest) in
    subst (λ (none : Bool). Appends o q (cond none [] (name ++ (number ++ (word ++ rest))))) (sym (ne_eqb counts.refused 0 some))
    (subst (Appends o q) joined (appends_then o a q (name ++ (number ++ word)) rest front (appends_then a b q (refused_parts 1 counts.refused_by_station.items) (LF ∷ []) parts end)))
