-- What gates keep apart.
use Rattle.std.proofs.Common.{◌≡◌, ◌≢◌, ◌≤◌, inl, inr, ℕ, List, [], ◌∷◌, ◌++◌, length, refl, sym, ◌∙◌, ap, subst, arith, append_assoc, length-append}
use Rattle.std.specs.Fmt.{decimal}
use Rattle.std.proofs.lemmas.Bool.{cases_eq}
use Rattle.std.proofs.lemmas.List.{append-nil}
use Rattle.dbf_fields.specs.declared.format.TheConstants.{BLANK}
use Rattle.station_lines.specs.declared.script.format.TheConstants.{LF}
use Rattle.station_lines.specs.JournalLines.{entry_and, HasSmallNumbers, HaveSmallNumbers}
use Rattle.station_lines.proofs.JournalLaws.{IsSameEntry, cut_part_one, entry_one, tail_is}
use Rattle.live_log.specs.declared.gates.TheConstants.{OPEN_GATE, SHUT_GATE}
use Rattle.live_log.specs.Gates.{LineParts, sum_of_line, log_line_and, gated, log_of, IsLogEnd, StandsFor, StandsForEither}
use Rattle.live_log.proofs.SumLaws.{sums_as_long}

abbrev first_of : List ℕ → ℕ
first_of [] = 0
first_of (x ∷ xs) = x

abbrev rest_of : List ℕ → List ℕ
rest_of [] = []
rest_of (x ∷ xs) = xs

-- no open gate is first
abbrev pub IsClosed : List ℕ → Type 0
IsClosed rest = (text : List ℕ) → rest ≢ OPEN_GATE ∷ text

part_then : (a : List ℕ) (b : ℕ) (x y rest : List ℕ) → x ++ rest ≡ y → (a ++ (b ∷ x)) ++ rest ≡ a ++ (b ∷ y)
part_then a b x y rest e = append_assoc a (b ∷ x) rest ∙ ap (λ (l : List ℕ). a ++ (b ∷ l)) e

-- an entry's line, and what stands after it
pub entry_then : (e : LineParts) (rest : List ℕ) → entry_and e [] ++ rest ≡ entry_and e rest
entry_then e rest =
    part_then (decimal e.0) BLANK _ _ rest (part_then (decimal (length e.1)) BLANK _ _ rest (part_then (decimal (length e.2)) BLANK _ _ rest
    (part_then e.1 BLANK _ _ rest (part_then e.2 LF [] rest rest refl))))

-- a line of a log, and what stands after it
pub log_line_then : (e : LineParts) (rest : List ℕ) → log_line_and e [] ++ rest ≡ log_line_and e rest
log_line_then e rest = part_then (sum_of_line (entry_and e [])) BLANK (entry_and e []) (entry_and e rest) rest (entry_then e rest)

-- it is cut off in one way
pub log_line_one : (e f : LineParts) (r s : List ℕ) → HasSmallNumbers e → HasSmallNumbers f → log_line_and e r ≡ log_line_and f s → IsSameEntry e f r s
log_line_one e f r s se sf same =
    let cut = cut_part_one (sum_of_line (entry_and e [])) (sum_of_line (entry_and f [])) (BLANK ∷ entry_and e r) (BLANK ∷ entry_and f s) (sums_as_long (entry_and e []) (entry_and f [])) same in
    entry_one e f r s se sf (tail_is BLANK BLANK (entry_and e r) (entry_and f s) cut.rest)

-- ---- lines behind open gates are cut off in one way

pub record IsSameLines (a b : List LineParts) (r s : List ℕ) : Type 0 where
  pub entries : a ≡ b
  pub rest : r ≡ s

pub same_lines : (a b : List LineParts) (r s : List ℕ) → HaveSmallNumbers a → HaveSmallNumbers b → IsClosed r → IsClosed s → gated a r ≡ gated b s → IsSameLines a b r s
same_lines [] [] r s sa sb hr hs is = record { entries = refl; rest = is }
same_lines [] (f ∷ b) r s sa sb hr hs is = absurd (hr _ is)
same_lines (e ∷ a) [] r s sa sb hr hs is = absurd (hs _ (sym is))
same_lines (e ∷ a) (f ∷ b) r s sa sb hr hs is =
    let same = log_line_one e f (gated a r) (gated b s) sa.0 sb.0 (ap rest_of is) in
    let others = same_lines a b r s sa.1 sb.1 hr hs same.rest in
    record { entries = ap (λ (x : LineParts). x ∷ a) same.entry ∙ ap (λ (xs : List LineParts). f ∷ xs) others.entries; rest = others.rest }

-- an end is no open gate
pub end_closed : (rest : List ℕ) (last : List LineParts) → IsLogEnd rest last → IsClosed rest
end_closed [] last end text is = end
end_closed (gate ∷ rest) last (inl shut) text is = omega (arith, shut.0, ap first_of is)
end_closed (gate ∷ rest) last (inr torn) text is = torn.1 (ap first_of is)

pub shut_closed : (torn : List ℕ) → IsClosed (SHUT_GATE ∷ torn)
shut_closed torn text is = omega (arith, ap first_of is)

pub same_log : (a b : List LineParts) → HaveSmallNumbers a → HaveSmallNumbers b → log_of a ≡ log_of b → a ≡ b
same_log a b sa sb is = (same_lines a b (SHUT_GATE ∷ []) (SHUT_GATE ∷ []) sa sb (shut_closed []) (shut_closed []) is).entries

-- the same end is one of the same entries
same_end : (rest : List ℕ) (a b : List LineParts) → HaveSmallNumbers a → HaveSmallNumbers b → IsLogEnd rest a → IsLogEnd rest b → a ≡ b
same_end [] a b sa sb p q = absurd p
same_end (gate ∷ rest) a b sa sb (inl p) (inl q) = p.1 ∙ sym q.1
same_end (gate ∷ rest) a b sa sb (inl p) (inr q) = absurd (q.0 p.0)
same_end (gate ∷ rest) a b sa sb (inr p) (inl q) = absurd (p.0 q.0)
same_end (gate ∷ rest) a b sa sb (inr p) (inr q) = same_log a b sa sb (sym p.2 ∙ q.2)

small-front : (es fs : List LineParts) → HaveSmallNumbers (es ++ fs) → HaveSmallNumbers es
small-front [] fs small = tt
small-front (e ∷ es) fs small = (small.0, small-front es fs small.1)

small-back : (es fs : List LineParts) → HaveSmallNumbers (es ++ fs) → HaveSmallNumbers fs
small-back [] fs small = small
small-back (e ∷ es) fs small = small-back es fs small.1

pub stands_front : (log : List ℕ) (es : List LineParts) (s : StandsFor log es) → HaveSmallNumbers s.front
stands_front log es s = small-front s.front s.last (subst (λ (xs : List LineParts). HaveSmallNumbers xs) s.all s.small)

pub stands_last : (log : List ℕ) (es : List LineParts) (s : StandsFor log es) → HaveSmallNumbers s.last
stands_last log es s = small-back s.front s.last (subst (λ (xs : List LineParts). HaveSmallNumbers xs) s.all s.small)

pub one : (log : List ℕ) (a b : List LineParts) → StandsFor log a → StandsFor log b → a ≡ b
one log a b p q =
    let same = same_lines p.front q.front p.rest q.rest (stands_front log a p) (stands_front log b q) (end_closed p.rest p.last p.end) (end_closed q.rest q.last q.end) (sym p.is ∙ q.is) in
    let ends : p.last ≡ q.last = same_end q.rest p.last q.last (stands_last log a p) (stands_last log b q) (subst (λ (rest : List ℕ). IsLogEnd rest p.last) same.rest p.end) q.end in
    p.all ∙ ap (λ (xs : List LineParts). xs ++ p.last) same.entries ∙ ap (λ (xs : List LineParts). q.front ++ xs) ends ∙ sym q.all

pub after_shut : (es : List LineParts) (torn : List ℕ) → HaveSmallNumbers es → StandsFor (gated es (SHUT_GATE ∷ torn)) es
after_shut es torn small =
    record { front = es; last = []; rest = SHUT_GATE ∷ torn; is = refl; end = inl (refl, refl); all = sym (append-nil es); small = small }

-- entries after entries
pub gated-append : (es fs : List LineParts) (rest : List ℕ) → gated (es ++ fs) rest ≡ gated es (gated fs rest)
gated-append [] fs rest = refl
gated-append (e ∷ es) fs rest = ap (λ (l : List ℕ). OPEN_GATE ∷ log_line_and e l) (gated-append es fs rest)

log_line_more : (e : LineParts) (text rest : List ℕ) → log_line_and e (text ++ rest) ≡ log_line_and e text ++ rest
log_line_more e text rest =
    sym (log_line_then e (text ++ rest)) ∙ sym (append_assoc (log_line_and e []) text rest) ∙ ap (λ (l : List ℕ). l ++ rest) (log_line_then e text)

-- what stands after lines is at their end
pub gated-rest : (es : List LineParts) (rest : List ℕ) → gated es rest ≡ gated es [] ++ rest
gated-rest [] rest = refl
gated-rest (e ∷ es) rest =
    ap (λ (l : List ℕ). OPEN_GATE ∷ log_line_and e l) (gated-rest es rest) ∙ ap (λ (l : List ℕ). OPEN_GATE ∷ l) (log_line_more e (gated es []) rest)

pub small-append : (es fs : List LineParts) → HaveSmallNumbers es → HaveSmallNumbers fs → HaveSmallNumbers (es ++ fs)
small-append [] fs a b = b
small-append (e ∷ es) fs a b = (a.0, small-append es fs a.1 b)

with_group : (es group : List LineParts) (tail : List ℕ) → HaveSmallNumbers es → HaveSmallNumbers group → OPEN_GATE ∷ tail ≡ log_of group → StandsFor (gated es (OPEN_GATE ∷ tail)) (es ++ group)
with_group es group tail a b whole = record {
  front = es ++ group;
  last = [];
  rest = SHUT_GATE ∷ [];
  is = ap (λ (l : List ℕ). gated es l) whole ∙ sym (gated-append es group (SHUT_GATE ∷ []));
  end = inl (refl, refl);
  all = sym (append-nil (es ++ group));
  small = small-append es group a b;
}

-- behind a gate that is not shut the group counts
pub rotten : (es group : List LineParts) (gate : ℕ) (tail : List ℕ) → HaveSmallNumbers es → HaveSmallNumbers group → OPEN_GATE ∷ tail ≡ log_of group → gate ≢ SHUT_GATE → StandsFor (gated es (gate ∷ tail)) (es ++ group)
rotten es group gate tail a b whole other = elim (cases_eq gate OPEN_GATE) [
  | inl is_open ↦ subst (λ (g : ℕ). StandsFor (gated es (g ∷ tail)) (es ++ group)) (sym is_open) (with_group es group tail a b whole)
  | inr torn ↦ record {
    front = es;
    last = group;
    rest = gate ∷ tail;
    is = refl;
    end = inr (other, torn, whole);
    all = refl;
    small = small-append es group a b;
  }
]

pub either : (es group : List LineParts) (gate : ℕ) (tail : List ℕ) → HaveSmallNumbers es → HaveSmallNumbers group → OPEN_GATE ∷ tail ≡ log_of group → StandsForEither (gated es (gate ∷ tail)) es group
either es group gate tail a b whole = elim (cases_eq gate SHUT_GATE) [
  | inl shut ↦ inl (subst (λ (g : ℕ). StandsFor (gated es (g ∷ tail)) es) (sym shut) (after_shut es tail a))
  | inr other ↦ inr (rotten es group gate tail a b whole other)
]

-- there are no more entries than bytes
pub entries_fit : (es : List LineParts) (rest : List ℕ) → length es ≤ length (gated es rest)
entries_fit [] rest = omega arith
entries_fit (e ∷ es) rest =
    omega (arith, entries_fit es rest, ap length (sym (log_line_then e (gated es rest))), length-append (log_line_and e []) (gated es rest))
