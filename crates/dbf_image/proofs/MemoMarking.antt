-- Marks are taken away and set, one by one.
use Rattle.std.proofs.Common.{◌≡◌, ◌≢◌, ℕ, suc, ◌+◌, ◌<◌, Bool, true, false, ◌||◌, List, [], ◌∷◌, ◌++◌, length, set, length-set, nat_eq, refl, ap, sym, ◌∙◌, ⊎_elim, eq-eqb, ne_eqb, arith}
use Rattle.std.proofs.lemmas.Bool.{cases_eq}
use Rattle.std.proofs.lemmas.List.Folds.{list_any-append}
use Rattle.std.specs.List.{list_any}
use Rattle.dbf_image.specs.declared.memo_store.block.MemoBlock.{MemoBlock}
use Rattle.dbf_image.specs.MemoChains.{block_at, Alike}
use Rattle.dbf_image.specs.MemoSteps.{Clears, Marks}
use Rattle.dbf_image.proofs.MemoFrame.{alike}
use Rattle.dbf_image.proofs.MemoFilling.{set_same, set_other}

pub twice : {a b c : MemoBlock} → Alike a b → Alike b c → Alike a c
twice f g = record { piece = f.piece ∙ g.piece; owner = f.owner ∙ g.owner; count = f.count ∙ g.count; next = f.next ∙ g.next }

pub or_false : (a b : Bool) → b ≡ false → (a || (b || false)) ≡ a
or_false true b e = refl
or_false false b e = ap (λ x. x || false) e

pub or_true : (a b : Bool) → b ≡ true → (a || (b || false)) ≡ true
or_true true b e = refl
or_true false b e = ap (λ x. x || false) e

pub clears_more : (n : ℕ) (xs ys : List MemoBlock) (b : MemoBlock) → n < length ys → Alike b (block_at ys n) → b.kept ≡ false → Clears n xs ys → Clears (n + 1) xs (set ys n b)
clears_more n xs ys b lt same off c = record {
  same_length = length-set ys n b ∙ c.same_length;
  alike = λ j. ⊎_elim
      (λ e. twice (alike (ap (block_at (set ys n b)) e ∙ set_same ys n b lt)) (twice same (twice (alike (ap (block_at ys) (sym e))) (c.alike j))))
      (λ ne. twice (alike (set_other ys n j b ne)) (c.alike j))
      (cases_eq j n);
  clear = λ j le. ⊎_elim
      (λ e. ap (λ (x : MemoBlock). x.kept) (ap (block_at (set ys n b)) e ∙ set_same ys n b lt) ∙ off)
      (λ ne. ap (λ (x : MemoBlock). x.kept) (set_other ys n j b ne) ∙ c.clear j (omega (arith, le, ne)))
      (cases_eq j n);
}

-- a number that no block has
pub marks_none : (n : ℕ) (xs ys : List MemoBlock) (numbers : List ℕ) → ((j : ℕ) → j < length xs → suc j ≢ n) → Marks xs ys numbers → Marks xs ys (numbers ++ n ∷ [])
marks_none n xs ys numbers past m = record {
  same_length = m.same_length;
  alike = m.alike;
  marks = λ j lt. m.marks j lt ∙ sym (list_any-append (nat_eq (suc j)) numbers (n ∷ []) ∙ or_false (list_any (nat_eq (suc j)) numbers) (nat_eq (suc j) n) (ne_eqb (suc j) n (past j lt)));
}

pub marks_more : (i : ℕ) (xs ys : List MemoBlock) (numbers : List ℕ) (b : MemoBlock) → i < length ys → Alike b (block_at ys i) → b.kept ≡ true → Marks xs ys numbers → Marks xs (set ys i b) (numbers ++ suc i ∷ [])
marks_more i xs ys numbers b lt same on m = record {
  same_length = length-set ys i b ∙ m.same_length;
  alike = λ j. ⊎_elim
      (λ e. twice (alike (ap (block_at (set ys i b)) e ∙ set_same ys i b lt)) (twice same (twice (alike (ap (block_at ys) (sym e))) (m.alike j))))
      (λ ne. twice (alike (set_other ys i j b ne)) (m.alike j))
      (cases_eq j i);
  marks = λ j le. ⊎_elim
      (λ e. ap (λ (x : MemoBlock). x.kept) (ap (block_at (set ys i b)) e ∙ set_same ys i b lt) ∙ on
      ∙ sym (list_any-append (nat_eq (suc j)) numbers (suc i ∷ []) ∙ or_true (list_any (nat_eq (suc j)) numbers) (nat_eq (suc j) (suc i)) (eq-eqb (suc j) (suc i) (ap suc e))))
      (λ ne. ap (λ (x : MemoBlock). x.kept) (set_other ys i j b ne) ∙ m.marks j le
      ∙ sym (list_any-append (nat_eq (suc j)) numbers (suc i ∷ []) ∙ or_false (list_any (nat_eq (suc j)) numbers) (nat_eq (suc j) (suc i)) (ne_eqb (suc j) (suc i) (λ e. ne (omega (arith, e))))))
      (cases_eq j i);
}
