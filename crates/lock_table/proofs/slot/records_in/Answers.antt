use Rattle.std.proofs.Common.{◌≡◌, ◌≢◌, inl, inr, ◌<◌, ◌≤◌, ℕ, suc, true, nat_lt, List, [], ◌∷◌, length, get_or, refl, sym, ap, subst, arith}
use Rattle.std.specs.List.{filter}
use Rattle.std.proofs.lemmas.Bool.Decides.{nat_tests}
use Rattle.lock_table.specs.declared.TheConstants.{MAX_RECORD_LOCKS}
use Rattle.lock_table.specs.Numbers.{AreRecordNumbers, IsListed, IsTableOrRecords}
use Rattle.lock_table.proofs.slot.records_in.Goals as goal
use Rattle.lock_table.proofs.slot.records_in.Goals.{else-held-gt0-via-then-held-gt0+else-held-eq-WHOLE_TABLE, else-held-gt0-via-else-held-gt0}

all_records : (ns : List ℕ) → AreRecordNumbers ns → filter (λ n. nat_lt 0 n) ns ≡ ns
all_records [] are = refl
all_records (n ∷ ns) are =
    let more : nat_lt 0 n ≡ true = let h : 1 ≤ n = are.0 in grind (arith, nat_tests) in
    rw more (ap (λ (l : List ℕ). n ∷ l) (all_records ns are.1))

first_record : (ns : List ℕ) → AreRecordNumbers ns → 0 < length ns → 1 ≤ get_or ns 0 0
first_record [] are h = absurd (omega arith)
first_record (n ∷ ns) are h = are.0

in_table : (most : ℕ) (ns : List ℕ) → IsTableOrRecords most ns → 0 < length ns → get_or ns 0 0 ≡ 0 → 0 ≡ length (filter (λ n. nat_lt 0 n) ns)
in_table most ns (inl e) h z = ap (λ (l : List ℕ). length (filter (λ n. nat_lt 0 n) l)) (sym e)
in_table most ns (inr are) h z = absurd (omega (arith, first_record ns are.0 h))

in_records : (most : ℕ) (ns : List ℕ) → IsTableOrRecords most ns → (0 < length ns → get_or ns 0 0 ≢ 0) → length ns ≡ length (filter (λ n. nat_lt 0 n) ns)
in_records most ns (inl e) other =
    let P : List ℕ → Type 0 = λ l. (0 < length l → get_or l 0 0 ≢ 0) → ⊥ in
    absurd (subst P (sym e) (λ f. f (omega arith) refl) other)
in_records most ns (inr are) other = sym (ap (λ (l : List ℕ). length l) (all_records ns are.0))

listed_at : (ns : List ℕ) (n : ℕ) → IsListed ns n → (k : ℕ) × (get_or ns k 0 ≡ n)
listed_at [] n h = absurd h
listed_at (m ∷ ms) n (inl e) = (0, sym e)
listed_at (m ∷ ms) n (inr h) = let i = listed_at ms n h in (suc i.0, i.1)

pub returns-then-held-eq-WHOLE_TABLE : goal.returns-then-held-eq-WHOLE_TABLE
returns-then-held-eq-WHOLE_TABLE c =
    let held = c.args.held.now in
    record {
      value = in_table MAX_RECORD_LOCKS held c.requires.allowed c.if-held-gt0.true c.if-held-eq-WHOLE_TABLE.true;
      bounded = λ n h. let i = listed_at held n h in omega (arith, i.1, c.type_inv.held i.0);
    }

pub returns : goal.returns
returns c =
    let held = c.args.held.now in
    let other : 0 < length held → get_or held 0 0 ≢ 0 =
    elim c.else-held-gt0.branch [
      | else-held-gt0-via-then-held-gt0+else-held-eq-WHOLE_TABLE w ↦ λ h. w.if-held-eq-WHOLE_TABLE.false
      | else-held-gt0-via-else-held-gt0 w ↦ λ h. absurd (omega (arith, w.if-held-gt0.false))
    ] in
    record {
      value = in_records MAX_RECORD_LOCKS held c.requires.allowed other;
      bounded = λ n h. let i = listed_at held n h in omega (arith, i.1, c.type_inv.held i.0);
    }
