-- The bytes of a group, made entry by entry.
use Rattle.std.proofs.Common.{◌≡◌, ℕ, ◌+◌, ◌<◌, List, [], ◌∷◌, ◌++◌, Some, length, map, take, sym, ◌∙◌, ap, subst, arith}
use Rattle.std.specs.List.{slice_get}
use Rattle.std.proofs.lemmas.List.{take_more, map-append}
use Rattle.std.proofs.lemmas.Option.{get_or_from_slice_get, slice_get_within}
use Rattle.catalogue_core.specs.declared.entry.Entry.{Entry}
use Rattle.dbf_fields.specs.declared.format.TheConstants.{BLANK}
use Rattle.station_lines.specs.JournalLines.{entry_and, line_parts, HasSmallNumbers, HaveSmallNumbers}
use Rattle.live_log.specs.declared.gates.TheConstants.{OPEN_GATE, SHUT_GATE}
use Rattle.live_log.specs.Gates.{LineParts, sum_of_line, log_line_and, gated, log_of, IsGroup, HasPutEntries}
use Rattle.live_log.proofs.GateLaws.{gated-rest, gated-append, small-append}

-- the bytes of the entries from one on
gated_from : (entries : List Entry) (i : ℕ) (e : Entry) (rest : List ℕ) → slice_get entries i ≡ Some e → gated (map line_parts (take (i + 1) entries)) rest ≡ gated (map line_parts (take i entries)) (OPEN_GATE ∷ log_line_and (line_parts e) rest)
gated_from entries i e rest at =
    let here : take (i + 1) entries ≡ take i entries ++ e ∷ [] =
    take_more entries i e (slice_get_within entries i e at) ∙ ap (λ (x : Entry). take i entries ++ x ∷ []) (get_or_from_slice_get entries i e e at) in
    ap (λ (es : List LineParts). gated es rest) (ap (map line_parts) here ∙ map-append line_parts (take i entries) (e ∷ [])) ∙ gated-append (map line_parts (take i entries)) (line_parts e ∷ []) rest

small_from : (entries : List Entry) (i : ℕ) (e : Entry) → slice_get entries i ≡ Some e → HasSmallNumbers (line_parts e) → HaveSmallNumbers (map line_parts (take i entries)) → HaveSmallNumbers (map line_parts (take (i + 1) entries))
small_from entries i e at one small =
    let here : take (i + 1) entries ≡ take i entries ++ e ∷ [] =
    take_more entries i e (slice_get_within entries i e at) ∙ ap (λ (x : Entry). take i entries ++ x ∷ []) (get_or_from_slice_get entries i e e at) in
    subst (λ (es : List LineParts). HaveSmallNumbers es) (sym (ap (map line_parts) here ∙ map-append line_parts (take i entries) (e ∷ []))) (small-append (map line_parts (take i entries)) (line_parts e ∷ []) small (one, tt))

-- one entry more is put
pub puts_on : (entries : List Entry) (i : ℕ) (e : Entry) (line bytes next : List ℕ) → slice_get entries i ≡ Some e → line ≡ entry_and (line_parts e) [] → HasSmallNumbers (line_parts e)
    → next ≡ bytes ++ (OPEN_GATE ∷ (sum_of_line line ++ (BLANK ∷ line))) → HasPutEntries (take i entries) bytes → HasPutEntries (take (i + 1) entries) next
puts_on entries i e line bytes next at is small goes put = record {
  is = goes ∙ ap (λ (l : List ℕ). bytes ++ (OPEN_GATE ∷ (sum_of_line l ++ (BLANK ∷ l)))) is ∙ ap (λ (l : List ℕ). l ++ (OPEN_GATE ∷ log_line_and (line_parts e) [])) put.is
      ∙ sym (gated-rest (map line_parts (take i entries)) (OPEN_GATE ∷ log_line_and (line_parts e) [])) ∙ sym (gated_from entries i e [] at);
  small = small_from entries i e at small put.small;
}

-- with a shut gate after them
pub is_log_of : (entries : List Entry) (bytes next : List ℕ) → HasPutEntries entries bytes → next ≡ bytes ++ (SHUT_GATE ∷ []) → next ≡ log_of (map line_parts entries)
is_log_of entries bytes next put is = is ∙ ap (λ (l : List ℕ). l ++ (SHUT_GATE ∷ [])) put.is ∙ sym (gated-rest (map line_parts entries) (SHUT_GATE ∷ []))

length-parts : (entries : List Entry) → length (map line_parts entries) ≡ length entries
length-parts [] = omega arith
length-parts (e ∷ es) = omega (arith, length-parts es)

pub is_group : (entries : List Entry) (bytes : List ℕ) → bytes ≡ log_of (map line_parts entries) → HaveSmallNumbers (map line_parts entries) → 0 < length entries → IsGroup (map line_parts entries) bytes
is_group entries bytes is small some = record { is = is; some = omega (arith, some, length-parts entries); small = small }
