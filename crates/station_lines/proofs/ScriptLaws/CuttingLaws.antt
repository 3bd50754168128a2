-- A script is cut into lines in one way.
use Rattle.std.proofs.Common.{◌≡◌, ◌≢◌, ℕ, suc, zero, List, [], ◌∷◌, ◌++◌, true, not, ◌==◌, ◌+◌, ◌-◌, ◌<◌, ◌≤◌, length, take, drop, Option, Some, None, refl, ap, ◌∙◌, sym, subst, arith, get_or, append_assoc}
use Rattle.std.proofs.lemmas.List.{append-nil, length-append}
use Rattle.std.specs.List.{position}
use Rattle.std.proofs.lemmas.Bool.{false≢true, and_parts, and_from}
use Rattle.station_lines.specs.declared.script.format.TheConstants.{LF, CR}
use Rattle.station_lines.specs.Script.Lines.{has_no_lf, without_cr, Ending, lf, cr_lf, none, ending_bytes, Ends, BeginsWithLine, AreLines}
use Rattle.station_lines.proofs.ScriptLaws.WordLaws.{same_byte}
use Rattle.station_lines.proofs.ScriptLaws.LineLaws.{line_ended, last_line}

-- a line, and the lines of what stands after it
pub line_before : (script line rest : List ℕ) → BeginsWithLine script line rest
    → (others : List (List ℕ)) → AreLines others rest → AreLines (line ∷ others) script
line_before script line rest begins others are = (rest, begins, are)

not_itself : (b : ℕ) → LF ≡ b → not (b == LF) ≡ true → ⊥
not_itself b e h = false≢true (sym (ap not (same_byte LF)) ∙ subst (λ (x : ℕ). not (x == LF) ≡ true) (sym e) h)

-- what stands before the first LF, and after it
cut_one : (a b r s : List ℕ) → has_no_lf a ≡ true → has_no_lf b ≡ true → a ++ (LF ∷ r) ≡ b ++ (LF ∷ s) → (a ≡ b) × (r ≡ s)
cut_one [] [] r s ha hb e = (refl, cc)
cut_one [] (y ∷ b) r s ha hb e =
    let same : LF ≡ y = cc in
    absurd (not_itself y same (and_parts (not (y == LF)) (has_no_lf b) hb).0)
cut_one (x ∷ a) [] r s ha hb e =
    let same : LF ≡ x = cc in
    absurd (not_itself x same (and_parts (not (x == LF)) (has_no_lf a) ha).0)
cut_one (x ∷ a) (y ∷ b) r s ha hb e =
    let same : x ≡ y = cc in
    let p = and_parts (not (x == LF)) (has_no_lf a) ha in
    let q = and_parts (not (y == LF)) (has_no_lf b) hb in
    let h = cut_one a b r s p.1 q.1 cc in
    (ap (λ (z : ℕ). z ∷ a) same ∙ ap (λ (zs : List ℕ). y ∷ zs) h.0, h.1)

lf_inside : (a r : List ℕ) → has_no_lf (a ++ (LF ∷ r)) ≡ true → ⊥
lf_inside [] r h = not_itself LF refl (and_parts (not (LF == LF)) (has_no_lf r) h).0
lf_inside (x ∷ a) r h = lf_inside a r (and_parts (not (x == LF)) (has_no_lf (a ++ (LF ∷ r))) h).1

no_lf_cr : (a : List ℕ) → has_no_lf a ≡ true → has_no_lf (a ++ (CR ∷ [])) ≡ true
no_lf_cr [] h = refl
no_lf_cr (x ∷ a) h =
    let p = and_parts (not (x == LF)) (has_no_lf a) h in
    and_from (not (x == LF)) (has_no_lf (a ++ (CR ∷ []))) p.0 (no_lf_cr a p.1)

nothing_there : (a : List ℕ) (c : ℕ) (r : List ℕ) → [] ≡ a ++ (c ∷ r) → ⊥
nothing_there [] c r e = absurd cc
nothing_there (x ∷ a) c r e = absurd cc

same_front : (a b : List ℕ) → a ++ (CR ∷ []) ≡ b ++ (CR ∷ []) → a ≡ b
same_front [] [] e = refl
same_front [] (y ∷ b) e = absurd (nothing_there b CR [] cc)
same_front (x ∷ a) [] e = absurd (nothing_there a CR [] cc)
same_front (x ∷ a) (y ∷ b) e =
    let same : x ≡ y = cc in
    ap (λ (z : ℕ). z ∷ a) same ∙ ap (λ (zs : List ℕ). y ∷ zs) (same_front a b cc)

at_end : (a : List ℕ) → get_or (a ++ (CR ∷ [])) (length a) 0 ≡ CR
at_end [] = refl
at_end (x ∷ a) = at_end a

cr_at_end : (a : List ℕ) → get_or (a ++ (CR ∷ [])) (length (a ++ (CR ∷ [])) - 1) 0 ≡ CR
cr_at_end a =
    let long = length-append a (CR ∷ []) in
    let last : length (a ++ (CR ∷ [])) - 1 ≡ length a = omega (arith, long) in
    rw last (at_end a)

with_return : (m q : List ℕ) → m ++ (CR ∷ LF ∷ q) ≡ (m ++ (CR ∷ [])) ++ (LF ∷ q)
with_return m q = sym (append_assoc m (CR ∷ []) (LF ∷ q))

-- LF alone and CR LF do not end one line
lf_or_cr : (s l r m q : List ℕ) → s ≡ l ++ (LF ∷ r) → has_no_lf l ≡ true → Ends lf l r
    → s ≡ m ++ (CR ∷ LF ∷ q) → has_no_lf m ≡ true → ⊥
lf_or_cr s l r m q i hl ended j hm =
    let h = cut_one l (m ++ (CR ∷ [])) r q hl (no_lf_cr m hm) (sym i ∙ (j ∙ with_return m q)) in
    ended (subst (λ (x : List ℕ). get_or x (length x - 1) 0 ≡ CR) (sym h.0) (cr_at_end m))

-- a line without an ending is all of the script
whole_line : (s m q : List ℕ) → s ≡ m ++ q → q ≡ [] → s ≡ m
whole_line s m q j ends = j ∙ (ap (λ (x : List ℕ). m ++ x) ends ∙ append-nil m)

lf_or_none : (s l r m : List ℕ) → s ≡ l ++ (LF ∷ r) → s ≡ m → has_no_lf m ≡ true → ⊥
lf_or_none s l r m i j hm = lf_inside l r (subst (λ (x : List ℕ). has_no_lf x ≡ true) (sym j ∙ i) hm)

first_one : (e f : Ending) (s l r m q : List ℕ) → s ≡ l ++ (ending_bytes e ++ r) → has_no_lf l ≡ true → Ends e l r
    → s ≡ m ++ (ending_bytes f ++ q) → has_no_lf m ≡ true → Ends f m q → (l ≡ m) × (r ≡ q)
first_one lf lf s l r m q i hl a j hm b = cut_one l m r q hl hm (sym i ∙ j)
first_one lf cr_lf s l r m q i hl a j hm b = absurd (lf_or_cr s l r m q i hl a j hm)
first_one cr_lf lf s l r m q i hl a j hm b = absurd (lf_or_cr s m q l r j hm b i hl)
first_one cr_lf cr_lf s l r m q i hl a j hm b =
    let h = cut_one (l ++ (CR ∷ [])) (m ++ (CR ∷ [])) r q (no_lf_cr l hl) (no_lf_cr m hm)
    (sym (with_return l r) ∙ (sym i ∙ (j ∙ with_return m q))) in
    (same_front l m h.0, h.1)
first_one none none s l r m q i hl a j hm b = (sym (whole_line s l r i a.1) ∙ whole_line s m q j b.1, a.1 ∙ sym b.1)
first_one none lf s l r m q i hl a j hm b = absurd (lf_or_none s m q l j (whole_line s l r i a.1) hl)
first_one lf none s l r m q i hl a j hm b = absurd (lf_or_none s l r m i (whole_line s m q j b.1) hm)
first_one none cr_lf s l r m q i hl a j hm b =
    absurd (lf_or_none s (m ++ (CR ∷ [])) q l (j ∙ with_return m q) (whole_line s l r i a.1) hl)
first_one cr_lf none s l r m q i hl a j hm b =
    absurd (lf_or_none s (l ++ (CR ∷ [])) r m (i ∙ with_return l r) (whole_line s m q j b.1) hm)

-- a script begins with one line
pub first_line_one : (s l r m q : List ℕ) → BeginsWithLine s l r → BeginsWithLine s m q → (l ≡ m) × (r ≡ q)
first_line_one s l r m q a b = first_one a.ending b.ending s l r m q a.joined a.one_line a.ended b.joined b.one_line b.ended

no_line : (e : Ending) (m q : List ℕ) → [] ≡ m ++ (ending_bytes e ++ q) → Ends e m q → ⊥
no_line lf m q j ended = nothing_there m LF q j
no_line cr_lf m q j ended = nothing_there m CR (LF ∷ q) j
no_line none m q j ended = ended.0 (sym (whole_line [] m q j ended.1))

nothing_begins : (s m q : List ℕ) → s ≡ [] → BeginsWithLine s m q → ⊥
nothing_begins s m q e b = no_line b.ending m q (sym e ∙ b.joined) b.ended

-- a script is these lines and no others
pub one_cutting : (script : List ℕ) (a b : List (List ℕ)) → AreLines a script → AreLines b script → a ≡ b
one_cutting script [] [] are other = refl
one_cutting script [] (m ∷ b) are other = absurd (nothing_begins script m other.0 are other.1)
one_cutting script (l ∷ a) [] are other = absurd (nothing_begins script l are.0 other are.1)
one_cutting script (l ∷ a) (m ∷ b) are other =
    let first = first_line_one script l are.0 m other.0 are.1 other.1 in
    let others = one_cutting are.0 a b are.2 (subst (λ (x : List ℕ). AreLines b x) (sym first.1) other.2) in
    ap (λ (x : List ℕ). x ∷ a) first.0 ∙ ap (λ (xs : List (List ℕ)). m ∷ xs) others

-- the lines of a script whose first line is known
with_line : (script line rest : List ℕ) → BeginsWithLine script line rest → (lines : List (List ℕ)) × AreLines lines rest
    → (lines : List (List ℕ)) × AreLines lines script
with_line script line rest begins others = (line ∷ others.0, line_before script line rest begins others.0 others.1)

shorter_end : (e : Ending) (l r : List ℕ) → Ends e l r → length r < length (l ++ (ending_bytes e ++ r))
shorter_end lf l r ended = let long = length-append l (LF ∷ r) in omega (arith, long)
shorter_end cr_lf l r ended = let long = length-append l (CR ∷ LF ∷ r) in omega (arith, long)
shorter_end none [] r ended = absurd (ended.0 refl)
shorter_end none (b ∷ l) r ended =
    let long = length-append l r in
    omega (arith, long)

shorter_rest : (s l r : List ℕ) → BeginsWithLine s l r → length r < length s
shorter_rest s l r b = subst (λ (x : List ℕ). length r < length x) (sym b.joined) (shorter_end b.ending l r b.ended)

first_by : (s : List ℕ) (o : Option ℕ) → position (λ b. b == LF) s ≡ o → s ≢ []
    → (line : List ℕ) × (rest : List ℕ) × BeginsWithLine s line rest
first_by s (Some end) e some = (without_cr (take end s), drop (end + 1) s, line_ended s end e)
first_by s None e some = (s, [], last_line s e some)

lines_within : (n : ℕ) (s : List ℕ) → length s ≤ n → (lines : List (List ℕ)) × AreLines lines s
lines_within n [] h = ([], refl)
lines_within zero (b ∷ s) h = absurd (omega (arith, h))
lines_within (suc n) (b ∷ s) h =
    let first = first_by (b ∷ s) (position (λ b. b == LF) (b ∷ s)) refl (λ e. absurd cc) in
    let short = shorter_rest (b ∷ s) first.0 first.1 first.2 in
    with_line (b ∷ s) first.0 first.1 first.2 (lines_within n first.1 (omega (arith, h, short)))

-- each script is some lines
pub some_lines : (script : List ℕ) → (lines : List (List ℕ)) × AreLines lines script
some_lines script = lines_within (length script) script (omega arith)
