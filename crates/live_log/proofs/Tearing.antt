-- What a crash leaves of a log that is written over.
use Rattle.std.proofs.Common.{◌≡◌, ℕ, ◌+◌, List, [], ◌∷◌, ◌++◌, length, get_or, take, drop, sym, ◌∙◌, ap, arith, append_assoc, length-append, take-append-drop}
use Rattle.std.proofs.lemmas.List.{take_at, drop_at, drop_more, take_all, drop_all, append-nil}
use Rattle.station_lines.specs.JournalLines.{HaveSmallNumbers}
use Rattle.live_log.specs.declared.gates.TheConstants.{OPEN_GATE, SHUT_GATE}
use Rattle.live_log.specs.Gates.{LineParts, gated, log_of, StandsFor, StandsForEither}
use Rattle.disk_in_place.specs.InPlace.{written_over, IsTorn}
use Rattle.live_log.proofs.GateLaws.{after_shut, either, gated-rest, gated-append}

pub length-log_of : (es : List LineParts) → length (log_of es) ≡ length (gated es []) + 1
length-log_of es = omega (arith, ap length (gated-rest es (SHUT_GATE ∷ [])), length-append (gated es []) (SHUT_GATE ∷ []))

log_then : (es : List LineParts) (rest : List ℕ) → log_of es ++ rest ≡ gated es (SHUT_GATE ∷ rest)
log_then es rest =
    ap (λ (l : List ℕ). l ++ rest) (gated-rest es (SHUT_GATE ∷ [])) ∙ append_assoc (gated es []) (SHUT_GATE ∷ []) rest
    ∙ sym (gated-rest es (SHUT_GATE ∷ rest))

module _ (head : List ℕ) (es : List LineParts) (n : ℕ) (ends : n ≡ length head + length (gated es [])) where
  -- behind the head
  behind : (x y : List ℕ) → x ≡ y → head ++ x ≡ head ++ y
  behind x y same = ap (λ (l : List ℕ). head ++ l) same

  pub length-whole : length (head ++ log_of es) ≡ n + 1
  length-whole = omega (arith, ends, length-log_of es, length-append head (log_of es))

  whole_then : (rest : List ℕ) → (head ++ log_of es) ++ rest ≡ head ++ gated es (SHUT_GATE ∷ rest)
  whole_then rest = append_assoc head (log_of es) rest ∙ behind _ _ (log_then es rest)

  -- the shut gate stands in each outcome of the first write
  pub torn_after : HaveSmallNumbers es → (k : ℕ) (c : List ℕ) → IsTorn (n + 1) k (head ++ log_of es) c → (log : List ℕ) × (c ≡ head ++ log) × StandsFor log es
  torn_after small k c torn =
      let rest = drop (n + 1) c in
      let front : take (n + 1) c ≡ head ++ log_of es = torn.before ∙ take_all _ _ (omega (arith, length-whole)) in
      let whole : c ≡ head ++ gated es (SHUT_GATE ∷ rest) = sym (take-append-drop (n + 1) c) ∙ ap (λ (l : List ℕ). l ++ rest) front ∙ whole_then rest in
      (gated es (SHUT_GATE ∷ rest), whole, after_shut es rest small)

  pub written_after : (tail : List ℕ) → written_over (n + 1) tail (head ++ log_of es) ≡ head ++ gated es (SHUT_GATE ∷ tail)
  written_after tail =
      ap (λ (l : List ℕ). l ++ (tail ++ drop (n + 1 + length tail) (head ++ log_of es))) (take_all _ _ (omega (arith, length-whole)))
      ∙ ap (λ (l : List ℕ). (head ++ log_of es) ++ (tail ++ l)) (drop_all (n + 1 + length tail) (head ++ log_of es) (omega (arith, length-whole)))
      ∙ ap (λ (l : List ℕ). (head ++ log_of es) ++ l) (append-nil tail)
      ∙ whole_then tail

  module _ (group : List LineParts) (tail : List ℕ) (whole_group : OPEN_GATE ∷ tail ≡ log_of group) where
    rest_then : (rest : List ℕ) → (head ++ gated es []) ++ rest ≡ head ++ gated es rest
    rest_then rest = append_assoc head (gated es []) rest ∙ behind _ _ (sym (gated-rest es rest))

    front : take n (head ++ gated es (SHUT_GATE ∷ tail)) ≡ head ++ gated es []
    front =
        ap (λ (l : List ℕ). take n l) (sym (rest_then (SHUT_GATE ∷ tail)))
        ∙ take_at (head ++ gated es []) (SHUT_GATE ∷ tail) n (omega (arith, ends, length-append head (gated es [])))

    back : drop (n + 1) (head ++ gated es (SHUT_GATE ∷ tail)) ≡ tail
    back = ap (λ (l : List ℕ). drop (n + 1) l) (sym (whole_then tail)) ∙ drop_at (head ++ log_of es) tail (n + 1) length-whole

    pub length-staged : length (head ++ gated es (SHUT_GATE ∷ tail)) ≡ n + 1 + length tail
    length-staged = omega (arith, ap length (sym (whole_then tail)), length-append (head ++ log_of es) tail, length-whole)

    -- the group stands whole in each outcome of the second write
    pub torn_gate : HaveSmallNumbers es → HaveSmallNumbers group → (c : List ℕ) → IsTorn n 1 (head ++ gated es (SHUT_GATE ∷ tail)) c
        → (log : List ℕ) × (c ≡ head ++ log) × StandsForEither log es group
    torn_gate small small_too c torn =
        let gate = get_or c n 0 in
        let rest : drop n c ≡ gate ∷ tail =
        drop_more c n 0 (omega (arith, torn.no_shorter, length-staged)) ∙ ap (λ (l : List ℕ). gate ∷ l) (torn.after ∙ back) in
        let whole : c ≡ head ++ gated es (gate ∷ tail) =
        sym (take-append-drop n c) ∙ ap (λ (l : List ℕ). l ++ drop n c) (torn.before ∙ front) ∙ ap (λ (l : List ℕ). (head ++ gated es []) ++ l) rest
        ∙ rest_then (gate ∷ tail) in
        (gated es (gate ∷ tail), whole, either es group gate tail small small_too whole_group)

    pub written_gate : written_over n (OPEN_GATE ∷ []) (head ++ gated es (SHUT_GATE ∷ tail)) ≡ head ++ log_of (es ++ group)
    written_gate =
        ap (λ (l : List ℕ). l ++ ((OPEN_GATE ∷ []) ++ drop (n + 1) (head ++ gated es (SHUT_GATE ∷ tail)))) front
        ∙ ap (λ (l : List ℕ). (head ++ gated es []) ++ ((OPEN_GATE ∷ []) ++ l)) back
        ∙ ap (λ (l : List ℕ). (head ++ gated es []) ++ l) whole_group
        ∙ rest_then (log_of group)
        ∙ behind _ _ (sym (gated-append es group (SHUT_GATE ∷ [])))

    pub length-both : length head + length (gated (es ++ group) []) ≡ n + length tail
    length-both = omega (
      arith,
      ends,
      length-log_of (es ++ group),
      ap length (gated-append es group (SHUT_GATE ∷ [])),
      ap length (gated-rest es (log_of group)),
      length-append (gated es []) (log_of group),
      ap length whole_group,
    )
