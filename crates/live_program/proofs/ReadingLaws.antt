-- A line that is read in pieces is the first of the bytes that it is read from.
use Rattle.std.proofs.Common.{◌≡◌, ◌≢◌, ◌⊎◌, ◌∙◌, ◌+◌, ◌-◌, ◌<◌, ◌≤◌, ℕ, zero, suc, Bool, true, false, not, cond, ◌==◌, List, [], ◌∷◌, ◌++◌, Option, Some, None, OnSome, Result, Ok, Err, IfOk, length, take, drop, get_or, refl, sym, ap, subst, arith, append_assoc, length-append, length-take-le, inl, inr}
use Rattle.std.specs.Prelude.{nat_lt, position}
use Rattle.std.specs.List.{position_or_len}
use Rattle.std.specs.Io.KnownBytes.{Consumes, IsAtEnd, Keeps}
use Rattle.std.proofs.KnownBytes.{Consumes-kept, Consumes-nil, Consumes-trans}
use Rattle.std.proofs.lemmas.Bool.{false≢true, eqb-true, and_parts, and_from}
use Rattle.std.proofs.lemmas.Bool.Decides.{nat_tests}
use Rattle.std.proofs.lemmas.List.{append-nil}
use Rattle.std.proofs.Math.Seq.{take-append_seam}
use Rattle.station_lines.specs.declared.script.format.TheConstants.{LF}
use Rattle.station_lines.specs.Script.Lines.{has_no_lf, without_cr, lf, cr_lf, none, BeginsWithLine}
use Rattle.station_lines.proofs.ScriptLaws.LineLaws.{last_at, last_line}
use Rattle.station_lines.proofs.ScriptLaws.PartLaws.{tested}
use Rattle.station_lines.proofs.ScriptLaws.TextLaws.{CutAt, cut_first}
use Rattle.live_day.specs.declared.keyboard.Typed.{Typed}
use Rattle.live_day.specs.declared.keyboard.Typed.TheVariants.{TooLong, Cut}
use Rattle.live_day.specs.declared.keyboard.TypingFault.{TypingFault}
use Rattle.live_day.specs.Typing.{IsLineTyped, TypesFirst, TypesNext}
use Rattle.live_program.specs.Consoles.{known_text}
use Rattle.live_program.specs.declared.reading.Origin.{Origin}
use Rattle.live_program.specs.declared.reading.Origin.TheVariants.{Pipe, Terminal}
use Rattle.live_program.specs.declared.reading.PieceEnd.{PieceEnd}
use Rattle.live_program.specs.declared.reading.PieceEnd.TheVariants.{Open, Line, Input}
use Rattle.live_program.specs.declared.reading.TheConstants.{CR, MAX_KEPT_BYTES}
use Rattle.live_program.specs.Reading.{end_bytes, HasPart, IsLineKept, ReadsPiece, TakesPiece}

-- ---- what is kept of a line

-- a piece is added
pub part_kept : (text kept piece now : List ℕ) (too_long : Bool) → too_long ≡ false → now ≡ kept ++ piece → IsLineKept text too_long kept → IsLineKept (text ++ piece) too_long now
part_kept text kept piece now true is grown part = absurd (false≢true (sym is))
part_kept text kept piece now false is grown part = grown ∙ ap (λ (l : List ℕ). l ++ piece) part

-- or the line is too long with it
pub part_long : (text kept piece now : List ℕ) (too_long : Bool) → (too_long ≡ true) ⊎ (MAX_KEPT_BYTES - length kept < length piece) → IsLineKept text too_long kept → IsLineKept (text ++ piece) true now
part_long text kept piece now true why part = omega (arith, part, length-append text piece)
part_long text kept piece now false (inl is) part = absurd (false≢true is)
part_long text kept piece now false (inr more) part = omega (arith, more, ap length part, length-append text piece)

-- ---- pieces

-- nothing is shown
pub takes_none : (text shown kept : List ℕ) (too_long : Bool) → IsLineKept text too_long kept → TakesPiece text (take 0 shown) Input too_long kept
takes_none text shown kept too_long part = record { piece = []; taken_is = refl; inside = refl; part = subst (λ (t : List ℕ). IsLineKept t too_long kept) (sym (append-nil text)) part }

-- no line ends in what is shown
pub takes_all : (text shown kept : List ℕ) (too_long : Bool) → position (λ b. b == LF) shown ≡ None → shown ≢ [] → IsLineKept (text ++ shown) too_long kept
    → TakesPiece text (take (length shown) shown) Open too_long kept
takes_all text shown kept too_long found some part = record {
  piece = shown;
  taken_is = ap (take (length shown)) (sym (append-nil shown)) ∙ take-append_seam shown [] ∙ sym (append-nil shown);
  inside = (last_line shown found some).one_line;
  part = part;
}

cut_at : (shown : List ℕ) (end : ℕ) → position (λ b. b == LF) shown ≡ Some end → CutAt LF shown end
cut_at shown end found =
    let at = tested (nat_lt (position_or_len (λ b. b == LF) shown) (length shown)) (position_or_len (λ b. b == LF) shown) end found in
    subst (λ (n : ℕ). CutAt LF shown n) at.1 (cut_first LF shown (grind (arith, nat_tests, at.0)))

-- a line ends in it
pub takes_line : (text shown kept : List ℕ) (end : ℕ) (too_long : Bool) → position (λ b. b == LF) shown ≡ Some end → end < length shown → IsLineKept (text ++ take end shown) too_long kept
    → TakesPiece text (take (end + 1) shown) Line too_long kept
takes_line text shown kept end too_long found within part =
    let cut : CutAt LF shown end = cut_at shown end found in
    let front : List ℕ = take end shown ++ LF ∷ [] in
    let joined : shown ≡ front ++ drop (suc end) shown = cut.whole ∙ sym (append_assoc (take end shown) (LF ∷ []) (drop (suc end) shown)) in
    let long : end + 1 ≡ length front = omega (arith, within, length-take-le end shown, length-append (take end shown) (LF ∷ [])) in
    record {
      piece = take end shown;
      taken_is = ap (λ (n : ℕ). take n shown) long ∙ ap (take (length front)) joined ∙ take-append_seam front (drop (suc end) shown);
      inside = cut.before;
      part = part;
    }

-- nothing was shown, since a signal came
pub piece_none : (r : Result PieceEnd TypingFault) (a b : Option (List ℕ)) (too_long : Bool) (kept : List ℕ) → IfOk r (λ end. end ≡ Open) → Keeps a b
    → IfOk r (λ end. (text : List ℕ) → IsLineKept text too_long kept → ReadsPiece text end a b too_long kept)
piece_none (Err fault) a b too_long kept is same = tt
piece_none (Ok end) a b too_long kept is same = λ text part. record {
  taken = [];
  takes = record {
    piece = [];
    taken_is = ap end_bytes (sym is);
    inside = refl;
    part = subst (λ (t : List ℕ). IsLineKept t too_long kept) (sym (append-nil text)) part;
  };
  gone = Consumes-kept a a b [] (Consumes-nil a) same;
  input = λ input. absurd (open_no_input (sym is ∙ input));
}
  where
    open_no_input : Open ≡ Input → ⊥
    open_no_input e = cc

-- ---- lines

no_lf_before : (bs : List ℕ) (k : ℕ) → has_no_lf bs ≡ true → has_no_lf (take k bs) ≡ true
no_lf_before [] zero h = refl
no_lf_before [] (suc k) h = refl
no_lf_before (b ∷ bs) zero h = refl
no_lf_before (b ∷ bs) (suc k) h = let p = and_parts (not (b == LF)) (has_no_lf bs) h in and_from (not (b == LF)) (has_no_lf (take k bs)) p.0 (no_lf_before bs k p.1)

pub no_lf_both : (a b : List ℕ) → has_no_lf a ≡ true → has_no_lf b ≡ true → has_no_lf (a ++ b) ≡ true
no_lf_both [] b ha hb = hb
no_lf_both (x ∷ a) b ha hb = let p = and_parts (not (x == LF)) (has_no_lf a) ha in and_from (not (x == LF)) (has_no_lf (a ++ b)) p.0 (no_lf_both a b p.1 hb)

with_cr : (b : ℕ) (xs rest : List ℕ) → get_or (b ∷ xs) (length xs) 0 ≡ CR → has_no_lf (b ∷ xs) ≡ true → BeginsWithLine ((b ∷ xs) ++ LF ∷ rest) (take (length xs) (b ∷ xs)) rest
with_cr b xs rest is inside = record {
  ending = cr_lf;
  joined = ap (λ (ys : List ℕ). ys ++ LF ∷ rest) (last_at xs b CR is) ∙ append_assoc (take (length xs) (b ∷ xs)) (CR ∷ []) (LF ∷ rest);
  one_line = no_lf_before (b ∷ xs) (length xs) inside;
  ended = tt;
}

-- a line that an LF ends is typed
types_cr : (b : ℕ) (xs rest : List ℕ) (typed : Typed) → get_or (b ∷ xs) (length xs) 0 ≡ CR → has_no_lf (b ∷ xs) ≡ true → IsLineTyped (take (length xs) (b ∷ xs)) typed
    → TypesFirst ((b ∷ xs) ++ LF ∷ rest) typed rest
unfolding with_cr
types_cr b xs rest typed is inside line = record { line = take (length xs) (b ∷ xs); first = with_cr b xs rest is inside; typed_is = line }

types_by_cr : (q : Bool) (front rest : List ℕ) (typed : Typed) → (get_or front (length front - 1) 0 == CR) ≡ q → has_no_lf front ≡ true
    → IsLineTyped (cond q (take (length front - 1) front) front) typed → TypesFirst (front ++ LF ∷ rest) typed rest
types_by_cr true [] rest typed is inside line = absurd (false≢true is)
types_by_cr true (b ∷ xs) rest typed is inside line =
    let one : length (b ∷ xs) - 1 ≡ length xs = omega arith in
    types_cr b xs rest typed (rw one at (eqb-true _ CR is)) inside (subst (λ (n : ℕ). IsLineTyped (take n (b ∷ xs)) typed) one line)
types_by_cr false front rest typed is inside line = record {
  line = front;
  first = record {
    ending = lf;
    joined = refl;
    one_line = inside;
    ended = λ same. false≢true (sym is ∙ ap (λ (x : ℕ). x == CR) same);
  };
  typed_is = line;
}

types_line : (front rest : List ℕ) (typed : Typed) → has_no_lf front ≡ true → IsLineTyped (without_cr front) typed → TypesFirst (front ++ LF ∷ rest) typed rest
types_line front rest typed inside line = types_by_cr (get_or front (length front - 1) 0 == CR) front rest typed refl inside line

-- ---- what is typed

cr_length : (text : List ℕ) (q : Bool) → length text ≤ length (cond q (take (length text - 1) text) text) + 1
cr_length text true = omega (arith, length-take-le (length text - 1) text)
cr_length text false = omega arith

-- a line that an LF ends
pub typed_ended : (text kept : List ℕ) (too_long : Bool) (typed : Typed) → IsLineKept text too_long kept → (too_long ≡ true → typed ≡ TooLong) → (too_long ≡ false → IsLineTyped (without_cr kept) typed)
    → IsLineTyped (without_cr text) typed
typed_ended text kept true typed part long line =
    subst (λ (t : Typed). IsLineTyped (without_cr text) t) (sym (long refl)) (omega (arith, part, cr_length text (get_or text (length text - 1) 0 == CR)))
typed_ended text kept false typed part long line = subst (λ (t : List ℕ). IsLineTyped (without_cr t) typed) part (line refl)

-- ---- from a source

pub part_none : (a : Option (List ℕ)) → HasPart a a false []
part_none a = record { text = []; inside = refl; gone = Consumes-nil a; part = refl }

-- a piece more
pub part_more : (a b c : Option (List ℕ)) (too_long long_now : Bool) (kept now : List ℕ) (end : PieceEnd) → end ≡ Open → (has : HasPart a b too_long kept) → ReadsPiece has.text end b c long_now now → HasPart a c long_now now
part_more a b c too_long long_now kept now end is has reads =
    let taken : reads.taken ≡ reads.takes.piece = reads.takes.taken_is ∙ ap (λ (e : PieceEnd). reads.takes.piece ++ end_bytes e) is ∙ append-nil reads.takes.piece in
    record {
      text = has.text ++ reads.takes.piece;
      inside = no_lf_both has.text reads.takes.piece has.inside reads.takes.inside;
      gone = Consumes-trans a b c has.text reads.takes.piece has.gone (subst (Consumes b c) taken reads.gone);
      part = reads.takes.part;
    }

-- all that was taken of a known text
taken_all : (x z front back : List ℕ) (a b c : Option (List ℕ)) → Consumes a b front → Consumes b c back → a ≡ Some x → c ≡ Some z → x ≡ (front ++ back) ++ z
taken_all x z front back a b c first second is now = subst (λ (o : Option (List ℕ)). Consumes o (Some z) (front ++ back)) is (subst (λ (o : Option (List ℕ)). Consumes a o (front ++ back)) now (Consumes-trans a b c front back first second))

-- what is known is still known
known_then : (x front : List ℕ) (c : Option (List ℕ)) → Consumes (Some x) c front → (z : List ℕ) × (c ≡ Some z) × (x ≡ front ++ z)
known_then x front None gone = absurd gone
known_then x front (Some z) gone = (z, refl, gone)

-- the line has ended
line_of_text : (x : List ℕ) (c : Option (List ℕ)) (line taken : List ℕ) (typed : Typed) → Consumes (Some x) c (line ++ LF ∷ []) → has_no_lf line ≡ true → IsLineTyped (without_cr line) typed
    → TypesNext (Some x) (Some typed) c
line_of_text x None line taken typed gone inside is = absurd gone
line_of_text x (Some z) line taken typed gone inside is = subst (λ (t : List ℕ). TypesFirst t typed z) (sym (gone ∙ append_assoc line (LF ∷ []) z)) (types_line line z typed inside is)

-- what holds of a text holds of what is known of it
of_known : (origin : Origin) (a c : Option (List ℕ)) (next : Option Typed) → TypesNext a next c → TypesNext (known_text origin a) next (known_text origin c)
of_known Terminal a c next is = tt
of_known Pipe a c next is = is

line_read_of : (a b c : Option (List ℕ)) (too_long long_now : Bool) (kept now : List ℕ) (end : PieceEnd) (typed : Typed) → end ≡ Line → (has : HasPart a b too_long kept) → ReadsPiece has.text end b c long_now now
    → (long_now ≡ true → typed ≡ TooLong) → (long_now ≡ false → IsLineTyped (without_cr now) typed) → TypesNext a (Some typed) c
line_read_of None b c too_long long_now kept now end typed is has reads long line = tt
line_read_of (Some x) b c too_long long_now kept now end typed is has reads long line =
    let piece : List ℕ = reads.takes.piece in
    let taken : has.text ++ reads.taken ≡ (has.text ++ piece) ++ LF ∷ [] =
    ap (λ (t : List ℕ). has.text ++ t) (reads.takes.taken_is ∙ ap (λ (e : PieceEnd). piece ++ end_bytes e) is) ∙ sym (append_assoc has.text piece (LF ∷ [])) in
    line_of_text x c (has.text ++ piece) [] typed (subst (Consumes (Some x) c) taken (Consumes-trans (Some x) b c has.text reads.taken has.gone reads.gone)) (no_lf_both has.text piece has.inside reads.takes.inside)
    (typed_ended (has.text ++ piece) now long_now typed reads.takes.part long line)

pub line_read : (a b c : Option (List ℕ)) (too_long long_now : Bool) (kept now : List ℕ) (end : PieceEnd) (typed : Typed) (origin : Origin) → end ≡ Line → (has : HasPart a b too_long kept)
    → ReadsPiece has.text end b c long_now now → (long_now ≡ true → typed ≡ TooLong) → (long_now ≡ false → IsLineTyped (without_cr now) typed) → TypesNext (known_text origin a) (Some typed) (known_text origin c)
line_read a b c too_long long_now kept now end typed origin is has reads long line =
    of_known origin a c (Some typed) (line_read_of a b c too_long long_now kept now end typed is has reads long line)

-- the source has ended
at_end : (x : List ℕ) (b c : Option (List ℕ)) (front : List ℕ) → Consumes (Some x) b front → OnSome b (IsAtEnd c) → IsAtEnd c
at_end x None c front gone end = absurd gone
at_end x (Some y) c front gone end = end

rest_of_text : (x : List ℕ) (c : Option (List ℕ)) (line : List ℕ) (typed : Typed) → Consumes (Some x) c line → IsAtEnd c → has_no_lf line ≡ true → line ≢ [] → typed ≡ Cut → TypesNext (Some x) (Some typed) c
rest_of_text x None line typed gone end inside some is = absurd gone
rest_of_text x (Some z) line typed gone end inside some is = record { line = line; first = record { ending = none; joined = gone; one_line = inside; ended = (some, end) }; typed_is = is }

-- what is kept is some of a line that has bytes
kept_some : (text kept : List ℕ) (too_long : Bool) → IsLineKept text too_long kept → (too_long ≡ true) ⊎ (kept ≢ []) → text ≢ []
kept_some text kept true part some is = omega (arith, part, ap length is)
kept_some text kept false part (inl long) is = false≢true long
kept_some text kept false part (inr some) is = some (part ∙ is)

pub rest_read : (a b c : Option (List ℕ)) (too_long long_now : Bool) (kept now : List ℕ) (end : PieceEnd) (typed : Typed) (origin : Origin) → end ≡ Input → (has : HasPart a b too_long kept)
    → ReadsPiece has.text end b c long_now now → (long_now ≡ true) ⊎ (now ≢ []) → (origin ≡ Pipe → typed ≡ Cut) → TypesNext (known_text origin a) (Some typed) (known_text origin c)
rest_read a b c too_long long_now kept now end typed Terminal is has reads some cut = tt
rest_read None b c too_long long_now kept now end typed Pipe is has reads some cut = tt
rest_read (Some x) b c too_long long_now kept now end typed Pipe is has reads some cut =
    let piece : List ℕ = reads.takes.piece in
    let taken : has.text ++ reads.taken ≡ has.text ++ piece =
    ap (λ (t : List ℕ). has.text ++ t) (reads.takes.taken_is ∙ ap (λ (e : PieceEnd). piece ++ end_bytes e) is ∙ append-nil piece) in
    rest_of_text x c (has.text ++ piece) typed (subst (Consumes (Some x) c) taken (Consumes-trans (Some x) b c has.text reads.taken has.gone reads.gone)) (at_end x b c has.text has.gone (reads.input is))
    (no_lf_both has.text piece has.inside reads.takes.inside) (kept_some (has.text ++ piece) now long_now reads.takes.part some) (cut refl)

-- and there was nothing of a line
none_of_text : (x : List ℕ) (c : Option (List ℕ)) (line : List ℕ) → Consumes (Some x) c line → IsAtEnd c → line ≡ [] → TypesNext (Some x) None c
none_of_text x None line gone end is = absurd gone
none_of_text x (Some z) line gone end is = (gone ∙ ap (λ (l : List ℕ). l ++ z) is ∙ end, end)

kept_none : (text kept : List ℕ) (too_long : Bool) → IsLineKept text too_long kept → too_long ≡ false → kept ≡ [] → text ≡ []
kept_none text kept true part short is = absurd (false≢true (sym short))
kept_none text kept false part short is = sym part ∙ is

none_read_of : (a b c : Option (List ℕ)) (too_long long_now : Bool) (kept now : List ℕ) (end : PieceEnd) → end ≡ Input → (has : HasPart a b too_long kept) → ReadsPiece has.text end b c long_now now
    → long_now ≡ false → now ≡ [] → TypesNext a None c
none_read_of None b c too_long long_now kept now end is has reads short empty = tt
none_read_of (Some x) b c too_long long_now kept now end is has reads short empty =
    let piece : List ℕ = reads.takes.piece in
    let taken : has.text ++ reads.taken ≡ has.text ++ piece =
    ap (λ (t : List ℕ). has.text ++ t) (reads.takes.taken_is ∙ ap (λ (e : PieceEnd). piece ++ end_bytes e) is ∙ append-nil piece) in
    none_of_text x c (has.text ++ piece) (subst (Consumes (Some x) c) taken (Consumes-trans (Some x) b c has.text reads.taken has.gone reads.gone)) (at_end x b c has.text has.gone (reads.input is))
    (kept_none (has.text ++ piece) now long_now reads.takes.part short empty)

pub none_read : (a b c : Option (List ℕ)) (too_long long_now : Bool) (kept now : List ℕ) (end : PieceEnd) (origin : Origin) → end ≡ Input → (has : HasPart a b too_long kept)
    → ReadsPiece has.text end b c long_now now → long_now ≡ false → now ≡ [] → TypesNext (known_text origin a) None (known_text origin c)
none_read a b c too_long long_now kept now end origin is has reads short empty =
    of_known origin a c None (none_read_of a b c too_long long_now kept now end is has reads short empty)
