-- Bytes that stand behind others: what is done to all of them, as it is seen from there.
use Rattle.std.proofs.Common.{◌≡◌, ◌+◌, ◌-◌, ◌*◌, ◌≤◌, ℕ, List, ◌++◌, length, take, drop, ap, sym, ◌∙◌, arith}
use Rattle.std.specs.List.{copy_within, splice}
use Rattle.std.proofs.Math.Seq.{paste}
use Rattle.std.proofs.lemmas.List.{length-append, length-drop, length-take-le, drop-append-le, drop-drop, drop-take}
use borrow.Rule.Slice.PartMut.{put_mid}
use Rattle.dbf_image.specs.Packing.{Moved}
use Rattle.dbf_image.proofs.Edits.{drop_put}
use Rattle.dbf_image.proofs.Packing.{part_moved, times_le}

front_behind : (s i : ℕ) (xs rest : List ℕ) → s + i ≤ length xs → drop s (take (s + i) xs ++ rest) ≡ take i (drop s xs) ++ rest
front_behind s i xs rest inside =
    let long = length-take-le (s + i) xs inside in
    drop-append-le s (take (s + i) xs) rest (omega (arith, long)) ∙ ap (λ (front : List ℕ). front ++ rest) (drop-take s i xs)

end_behind : (s i k : ℕ) (xs : List ℕ) → drop (s + i + k) xs ≡ drop (i + k) (drop s xs)
end_behind s i k xs =
    let far : s + i + k ≡ s + (i + k) = omega arith in
    ap (λ (n : ℕ). drop n xs) far ∙ sym (drop-drop (i + k) s xs)

-- others in the place of a part, as a part of a list is put,
pub splice_put : (i : ℕ) (xs ys : List ℕ) → splice xs i (i + length ys) ys ≡ put_mid i (length ys) xs ys
splice_put i xs ys = ap (λ (rest : List ℕ). take i xs ++ (ys ++ rest)) (sym (drop-drop (length ys) i xs))

pub put_behind : (s i : ℕ) (xs ys : List ℕ) → s + i ≤ length xs → drop s (put_mid (s + i) (length ys) xs ys) ≡ splice (drop s xs) i (i + length ys) ys
put_behind s i xs ys inside = drop_put s i (length ys) xs ys inside ∙ sym (splice_put i (drop s xs) ys)

-- and a part that is copied elsewhere
copy_behind : (s f n d : ℕ) (xs : List ℕ) → s + d ≤ length xs → s + f + n ≤ length xs → drop s (paste xs (s + d) (drop (s + f) xs) n) ≡ paste (drop s xs) d (drop f (drop s xs)) n
copy_behind s f n d xs low high =
    let part : List ℕ = take n (drop (s + f) xs) in
    let long = length-take-le (s + d) xs low in
    let after : s ≤ length (take (s + d) xs ++ part) = omega (arith, long, length-append (take (s + d) xs) part) in
    let same : part ≡ take n (drop f (drop s xs)) = ap (take n) (sym (drop-drop f s xs)) in
    drop-append-le s (take (s + d) xs ++ part) (drop (s + d + n) xs) after
    ∙ ap (λ (front : List ℕ). front ++ drop (s + d + n) xs) (front_behind s d xs part low ∙ ap (λ (p : List ℕ). take d (drop s xs) ++ p) same)
    ∙ ap (λ (rest : List ℕ). (take d (drop s xs) ++ take n (drop f (drop s xs))) ++ rest) (end_behind s d n xs)

pub move_behind : (s size from to : ℕ) (xs : List ℕ) → to ≤ from → s ≤ length xs → from * size + size ≤ length (drop s xs)
    → Moved size from to (drop s xs) (drop s (copy_within xs (s + from * size) (s + from * size + size) (s + to * size)))
move_behind s size from to xs before low inside =
    let long = length-drop s xs in
    let near : to * size ≤ from * size = times_le to from size before in
    let here : s + to * size ≤ length xs = omega (arith, long, near) in
    let there : s + from * size + size ≤ length xs = omega (arith, long) in
    let wide : s + from * size + size - (s + from * size) ≡ size = omega arith in
    let narrow : from * size + size - from * size ≡ size = omega arith in
    let moved = rw narrow at (part_moved (drop s xs) size from to before inside) in
    rw (wide, copy_behind s (from * size) size (to * size) xs here there) moved
