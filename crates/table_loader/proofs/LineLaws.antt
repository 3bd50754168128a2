-- Lines that are read one after the other are the lines of the text.
use Rattle.std.proofs.Common.{Bor, ◌≡◌, ◌+◌, ◌<◌, ◌≤◌, ◌==◌, ◌++◌, ◌∷◌, ◌∙◌, [], ℕ, suc, zero, List, Bool, Option, Some, None, IsSome, refl, sym, ap, subst, true, false, inl, inr, arith, length}
use Rattle.std.specs.Prelude.{if◌then◌else◌}
use Rattle.std.proofs.lemmas.Bool.{cases_Bool}
use Rattle.csv.specs.Machine.{Read, after_end, ends_at_end, ends_with, fields_after, field_after, in_field, is_end, next_record, start_field, start_record, step}
use Rattle.csv.specs.Reading.{Reached, ReadRecord, records_from}
use Rattle.csv.specs.declared.parser.Config.{Config}
use Rattle.csv.specs.declared.parser.State.{State}
use Rattle.csv.specs.declared.parser.State.TheVariants as st
use Rattle.csv.specs.declared.parser.Action.{Action}
use Rattle.csv.specs.declared.parser.Action.TheVariants as act
use Rattle.csv.specs.declared.reader.Reader.{Reader}
use Rattle.csv.proofs.ReadFacts.{rows-end, rows-more}
use Rattle.table_loader.specs.CsvText.{bytes_left, lines_from, lines_left, separated, separator_of, IsNextLine, ReadsCsv}

-- ---- after a record the reader stands between two records

-- what an action that ends a record leaves
abbrev EndsBetween : State × Action → Type 0
EndsBetween after = is_end after.1 ≡ true → ends_at_end after.0 ≡ false

ends_if : (b : Bool) (x y : State × Action) → (b ≡ true → EndsBetween x) → (b ≡ false → EndsBetween y) → EndsBetween (if b then x else y)
ends_if true x y left right = left refl
ends_if false x y left right = right refl

-- an action that ends no record
goes_on : (s : State) (a : Action) → is_end a ≡ false → EndsBetween (s, a)
goes_on s a goes ends = absurd cc

end_after : (by c : ℕ) → EndsBetween (after_end (separated by).terminator c, act.EndRecord)
end_after by c = elim (cases_Bool (c == 13)) [ inl return ↦ rw return (λ e. refl) | inr feed ↦ rw feed (λ e. refl) ]

end_in_field : (by c : ℕ) → EndsBetween (in_field (separated by) c)
end_in_field by c =
    ends_if (c == by) _ _ (λ e. goes_on st.StartField act.EndField refl) (λ e.
    ends_if (ends_with (separated by).terminator c) _ _ (λ e. end_after by c) (λ e. goes_on st.InField act.Copy refl))

end_start_field : (by c : ℕ) → EndsBetween (start_field (separated by) c)
end_start_field by c = ends_if (c == 34) _ _ (λ e. goes_on st.InQuoted act.Skip refl) (λ e. end_in_field by c)

end_start_record : (by c : ℕ) → EndsBetween (start_record (separated by) c)
end_start_record by c = ends_if (ends_with (separated by).terminator c) _ _ (λ e. goes_on st.StartRecord act.Skip refl) (λ e. end_start_field by c)

after_record : (by : ℕ) (s : State) (c : ℕ) → EndsBetween (step (separated by) s c)
after_record by st.StartRecord c = end_start_record by c
after_record by st.StartField c = end_start_field by c
after_record by st.InField c = end_in_field by c
after_record by st.InQuoted c = ends_if (c == 34) _ _ (λ e. goes_on st.AfterQuote act.Skip refl) (λ e. goes_on st.InQuoted act.Copy refl)
after_record by st.InEscape c = goes_on st.InQuoted act.Copy refl
after_record by st.AfterQuote c = ends_if (c == 34) _ _ (λ e. goes_on st.InQuoted act.Copy refl) (λ e. end_in_field by c)
after_record by st.InComment c = ends_if (c == 10) _ _ (λ e. goes_on st.StartRecord act.Skip refl) (λ e. goes_on st.InComment act.Skip refl)
after_record by st.AfterCr c = ends_if (c == 10) _ _ (λ e. goes_on st.StartRecord act.Skip refl) (λ e. end_start_record by c)

-- ---- and fewer bytes are left

record Shortens (s : State) (xs : List ℕ) (p : Read) : Type 0 where
  pub no_longer : length p.2 ≤ length xs
  pub between : ends_at_end p.1 ≡ false
  pub shorter : ends_at_end s ≡ false → length p.2 < length xs

shortens : (by : ℕ) (s : State) (fields : List (List ℕ)) (field xs : List ℕ) (p : Read) → next_record (separated by) s fields field xs ≡ Some p → Shortens s xs p
unfolding next_record
shortens by s fields field [] p e = elim (cases_Bool (ends_at_end s)) [
  | inl ending ↦
      let is : (fields ++ (field ∷ []), st.StartRecord, []) ≡ p = cc (rw ending at e) in
      subst (λ (q : Read). Shortens s [] q) is (record { no_longer = omega arith; between = refl; shorter = λ closed. absurd cc })
  | inr closed ↦ absurd (cc (rw closed at e))
]
shortens by s fields field (c ∷ rest) p e =
    let after = step (separated by) s c in
    elim (cases_Bool (is_end after.1)) [
      | inl end ↦
          let is : (fields_after after.1 fields field, after.0, rest) ≡ p = cc (rw end at e) in
          subst (λ (q : Read). Shortens s (c ∷ rest) q) is (record { no_longer = omega arith; between = after_record by s c end; shorter = λ closed. omega arith })
      | inr more ↦
          let there = shortens by after.0 (fields_after after.1 fields field) (field_after after.1 c field) rest p (rw more at e) in
          record { no_longer = omega (arith, there.no_longer); between = there.between; shorter = λ closed. omega (arith, there.no_longer) }
    ]

-- ---- so all that counts of the fuel is that there is enough

abbrev pub SameLines : ℕ → ℕ → ℕ → Type 0
SameLines by n m =
    (s : State) (xs : List ℕ) → ends_at_end s ≡ false → length xs < n → length xs < m → records_from (separated by) n s xs ≡ records_from (separated by) m s xs

same_more : (by n m : ℕ) → SameLines by n m → (s : State) (xs : List ℕ) (o : Option Read) → next_record (separated by) s [] [] xs ≡ o → ends_at_end s ≡ false
    → length xs < suc n → length xs < suc m → records_from (separated by) (suc n) s xs ≡ records_from (separated by) (suc m) s xs
unfolding records_from
same_more by n m more s xs None e between few enough = rw e refl
same_more by n m more s xs (Some p) e between few enough =
    let short = shortens by s [] [] xs p e in
    let small = short.shorter between in
    rw e (ap (λ (t : List (List (List ℕ))). p.0 ∷ t) (more p.1 p.2 short.between (omega (arith, small)) (omega (arith, small))))

pub same_lines : (by n m : ℕ) → SameLines by n m
same_lines by zero m s xs between few enough = absurd (omega arith)
same_lines by (suc n) zero s xs between few enough = absurd (omega arith)
same_lines by (suc n) (suc m) s xs between few enough = same_more by n m (same_lines by n m) s xs (next_record (separated by) s [] [] xs) refl between few enough

-- ---- a record that is read is the first line that is left

pub line_taken : (by : ℕ) (s : State) (xs : List ℕ) (p : Read) → ends_at_end s ≡ false → next_record (separated by) s [] [] xs ≡ Some p
    → (lines_from by s (Some xs) ≡ p.0 ∷ lines_from by p.1 (Some p.2)) × (ends_at_end p.1 ≡ false)
unfolding records_from
line_taken by s xs p between e =
    let short = shortens by s [] [] xs p e in
    let small = short.shorter between in
    let fuel : length xs + 1 ≡ suc (length xs) = omega arith in
    let same = same_lines by (length xs) (length p.2 + 1) p.1 p.2 short.between (omega (arith, small)) (omega arith) in
    (rw (fuel, e) (ap (λ (t : List (List (List ℕ))). p.0 ∷ t) same), short.between)

no_line_left : (by : ℕ) (s : State) (xs : List ℕ) → next_record (separated by) s [] [] xs ≡ None → lines_from by s (Some xs) ≡ []
unfolding records_from
no_line_left by s xs e = let fuel : length xs + 1 ≡ suc (length xs) = omega arith in rw (fuel, e) refl

-- ---- the same of a reader

-- the source of a reader over bytes
abbrev pub known_source : Bor (List ℕ) → Option (List ℕ)
known_source source = Some source.now

taken_from : (a b : Reader (Bor (List ℕ))) (cells : List (List ℕ)) (xs : List ℕ) → ReadsCsv a → bytes_left a ≡ Some xs → ReadRecord known_source a b true cells
    → (lines_left a ≡ cells ∷ lines_left b) × IsSome (bytes_left b) × (ends_at_end b.state ≡ false)
unfolding Reached
taken_from a b cells xs reads known r =
    let by = separator_of a in
    let (ys, left, reached) = rows-more known_source a b cells (separated by) a.state xs xs [] reads.config known (refl, refl) r in
    let (p, taken, is, end) = reached in
    let line = line_taken by a.state xs p reads.between taken in
    let here : lines_left a ≡ lines_from by a.state (Some xs) = ap (lines_from by a.state) known in
    let same : by ≡ separator_of b = ap (λ (c : Config). c.delimiter) (sym r.2) in
    let after : lines_from by p.1 (Some p.2) ≡ lines_left b =
    ap (λ (s : State). lines_from by s (Some p.2)) end.0 ∙ ap (λ (z : List ℕ). lines_from by b.state (Some z)) end.1 ∙ ap (lines_from by b.state) (sym left)
    ∙ ap (λ (n : ℕ). lines_from n b.state (bytes_left b)) same in
    let first : p.0 ∷ lines_from by p.1 (Some p.2) ≡ cells ∷ lines_left b = ap (λ (t : List (List (List ℕ))). p.0 ∷ t) after ∙ ap (λ (t : List (List ℕ)). t ∷ lines_left b) (sym is) in
    (here ∙ line.0 ∙ first, rw left refl, ap ends_at_end (sym end.0) ∙ line.1)

is_known : (o : Option (List ℕ)) → IsSome o → (xs : List ℕ) × (o ≡ Some xs)
is_known None known = absurd cc
is_known (Some xs) known = (xs, refl)

-- the line that a reader took is the first of those that were left
pub line_read : (a b : Reader (Bor (List ℕ))) (cells : List (List ℕ)) → ReadsCsv a → ReadRecord known_source a b true cells
    → (lines_left a ≡ cells ∷ lines_left b) × IsSome (bytes_left b) × (ends_at_end b.state ≡ false)
line_read a b cells reads r = let (xs, known) = is_known (bytes_left a) reads.known in taken_from a b cells xs reads known r

-- where it took none there was none
pub no_line_read : (a b : Reader (Bor (List ℕ))) (cells : List (List ℕ)) → ReadsCsv a → ReadRecord known_source a b false cells → lines_left a ≡ []
no_line_read a b cells reads r =
    let (xs, known) = is_known (bytes_left a) reads.known in
    rw known (no_line_left (separator_of a) a.state xs (rows-end known_source a b cells (separated (separator_of a)) xs reads.config known r))

-- the next line of a reader
pub next_is : (a b : Reader (Bor (List ℕ))) (found : Bool) (cells : List (List ℕ)) → ReadsCsv a → ReadRecord known_source a b found cells
    → IsNextLine found (lines_left a) cells (lines_left b)
next_is a b true cells reads r = (line_read a b cells reads r).0
next_is a b false cells reads r = no_line_read a b cells reads r

-- after it the reader reads on
pub reads_again : (a b : Reader (Bor (List ℕ))) (found : Bool) (cells : List (List ℕ)) → found ≡ true → ReadsCsv a → ReadRecord known_source a b found cells
    → b.first ≡ true → b.flexible ≡ a.flexible → ReadsCsv b
reads_again a b true cells e reads r first flexible =
    let line = line_read a b cells reads r in
    let same : separated (separator_of a) ≡ separated (separator_of b) = ap (λ (c : Config). separated c.delimiter) (sym r.2) in
    record { config = r.2 ∙ reads.config ∙ same; trims = r.3 ∙ reads.trims; any_length = flexible ∙ reads.any_length; ready = inl first; known = line.1; between = line.2 }
reads_again a b false cells e reads r first flexible = absurd cc
