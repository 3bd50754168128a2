-- The first line of a script, and what stands after it.
use Rattle.std.proofs.Common.{◌≡◌, ◌≢◌, ℕ, suc, zero, List, [], ◌∷◌, ◌++◌, Bool, true, false, not, cond, ◌==◌, ◌+◌, ◌-◌, length, take, drop, Some, None, refl, ap, ◌∙◌, sym, subst, arith, get_or, append_assoc}
use Rattle.std.specs.Prelude.{nat_lt}
use Rattle.std.proofs.lemmas.List.{append-nil}
use Rattle.std.specs.List.{position_or_len, position}
use Rattle.std.proofs.lemmas.Bool.Decides.{nat_tests}
use Rattle.std.proofs.lemmas.Bool.{false≢true, eqb-true, and_parts, and_from}
use Rattle.station_lines.specs.declared.script.format.TheConstants.{LF, CR}
use Rattle.station_lines.proofs.ScriptLaws.PartLaws.{tested}
use Rattle.station_lines.proofs.ScriptLaws.TextLaws.{CutAt, cut_first}
use Rattle.station_lines.specs.Script.Lines.{has_no_lf, without_cr, lf, cr_lf, none, BeginsWithLine}

abbrev lf_at : List ℕ → ℕ
lf_at script = position_or_len (λ b. b == LF) script

no_lf_before : (bs : List ℕ) (k : ℕ) → has_no_lf bs ≡ true → has_no_lf (take k bs) ≡ true
no_lf_before [] zero h = refl
no_lf_before [] (suc k) h = refl
no_lf_before (b ∷ bs) zero h = refl
no_lf_before (b ∷ bs) (suc k) h = let p = and_parts (not (b == LF)) (has_no_lf bs) h in and_from (not (b == LF)) (has_no_lf (take k bs)) p.0 (no_lf_before bs k p.1)

-- a text and its last byte
pub last_at : (xs : List ℕ) (b c : ℕ) → get_or (b ∷ xs) (length xs) 0 ≡ c → b ∷ xs ≡ take (length xs) (b ∷ xs) ++ (c ∷ [])
last_at [] b c h = ap (λ (x : ℕ). x ∷ []) h
last_at (d ∷ xs) b c h = ap (λ (ys : List ℕ). b ∷ ys) (last_at xs d c h)

with_cr : (b : ℕ) (xs rest : List ℕ) → get_or (b ∷ xs) (length xs) 0 ≡ CR → has_no_lf (b ∷ xs) ≡ true
    → BeginsWithLine ((b ∷ xs) ++ (LF ∷ rest)) (take (length xs) (b ∷ xs)) rest
with_cr b xs rest h line = record {
  ending = cr_lf;
  joined = ap (λ (ys : List ℕ). ys ++ (LF ∷ rest)) (last_at xs b CR h) ∙ append_assoc (take (length xs) (b ∷ xs)) (CR ∷ []) (LF ∷ rest);
  one_line = no_lf_before (b ∷ xs) (length xs) line;
  ended = tt;
}

by_cr : (q : Bool) (front rest : List ℕ) → (get_or front (length front - 1) 0 == CR) ≡ q → has_no_lf front ≡ true
    → BeginsWithLine (front ++ (LF ∷ rest)) (cond q (take (length front - 1) front) front) rest
by_cr true [] rest e line = absurd (false≢true e)
by_cr true (b ∷ xs) rest e line =
    let one : length (b ∷ xs) - 1 ≡ length xs = omega arith in
    rw one (with_cr b xs rest (rw one at (eqb-true _ CR e)) line)
by_cr false front rest e line = record {
  ending = lf;
  joined = refl;
  one_line = line;
  ended = λ is. false≢true (sym e ∙ ap (λ (x : ℕ). x == CR) is);
}

-- a line that an LF ends
pub line_ended : (script : List ℕ) (end : ℕ) → position (λ b. b == LF) script ≡ Some end
    → BeginsWithLine script (without_cr (take end script)) (drop (end + 1) script)
line_ended script end e =
    let at = tested (nat_lt (lf_at script) (length script)) (lf_at script) end e in
    let c : CutAt LF script end = subst (λ (n : ℕ). CutAt LF script n) at.1 (cut_first LF script (grind (arith, nat_tests, at.0))) in
    let next : end + 1 ≡ suc end = omega arith in
    let rest : List ℕ = drop (suc end) script in
    let line = by_cr (get_or (take end script) (length (take end script) - 1) 0 == CR) (take end script) rest refl c.before in
    rw next (subst (λ (s : List ℕ). BeginsWithLine s (without_cr (take end script)) rest) (sym c.whole) line)

none_at : (q : Bool) (b : ℕ) (bs : List ℕ) → (b == LF) ≡ q → (nat_lt (lf_at bs) (length bs) ≡ false → has_no_lf bs ≡ true)
    → nat_lt (cond (not q) (1 + lf_at bs) 0) (suc (length bs)) ≡ false → has_no_lf (b ∷ bs) ≡ true
none_at true b bs e others h = absurd (grind (arith, nat_tests, h))
none_at false b bs e others h = and_from (not (b == LF)) (has_no_lf bs) (ap not e) (others (grind (arith, nat_tests, h)))

none_lf : (script : List ℕ) → nat_lt (lf_at script) (length script) ≡ false → has_no_lf script ≡ true
none_lf [] h = refl
none_lf (b ∷ bs) h = none_at (b == LF) b bs refl (none_lf bs) h

not_found : (q : Bool) (n : ℕ) → cond q (Some n) None ≡ None → q ≡ false
not_found true n e = absurd cc
not_found false n e = refl

-- the last line, which lacks its ending
pub last_line : (script : List ℕ) → position (λ b. b == LF) script ≡ None → script ≢ [] → BeginsWithLine script script []
last_line script e some = record {
  ending = none;
  joined = sym (append-nil script);
  one_line = none_lf script (not_found (nat_lt (lf_at script) (length script)) (lf_at script) e);
  ended = (some, refl);
}
