-- What a pass knows, as a part of all that there is to know.
use Rattle.std.proofs.Common.{◌≡◌, ℕ, ◌+◌, ◌≤◌, Bool, true, false, List, [], ◌∷◌, ◌++◌, length, refl, sym, ap, ◌∙◌, subst, arith, length-append}
use Rattle.std.specs.Prelude.{nat_lt, if◌then◌else◌}
use Rattle.std.proofs.lemmas.Bool.{lt-ltb, ltb-false}
use Rattle.catalogue_core.specs.declared.entry.Entry.{Entry}
use Rattle.catalogue_core.specs.declared.status.StatusRow.{StatusRow}
use Rattle.shared_catalogue.specs.declared.board.Known.{Known}
use Rattle.shared_catalogue.specs.declared.board.View.{View}
use Rattle.shared_catalogue.specs.Board.{nothing_known, with_next, IsPartOf, more_known, writer_of, copied_view, answered_view, noting_view, told_view, IsSwapOf}
use Rattle.shared_catalogue.specs.OwnCalls.{receipt_of}
use Rattle.shared_catalogue.specs.RowWords.{row_of_words}
use Rattle.shared_catalogue.specs.Seats.{AreReceiptsIn}
use Rattle.shared_catalogue.specs.StatusRows.{calls_of}
use Rattle.shared_catalogue.proofs.ReceiptLaws.{within_of}
use Rattle.shared_catalogue.proofs.RowListLaws.{prefix_self, prefix_none, prefix_more, prefix_length, prefix_whole}

pub part_self : (k : Known) → IsPartOf k k
part_self k = (prefix_self k.rows, prefix_self k.entries)

pub part_none : (k : Known) → IsPartOf nothing_known k
part_none k = (prefix_none k.rows, prefix_none k.entries)

pub part_next : (k all : Known) (r : StatusRow) (e : Entry) → IsPartOf k all → IsPartOf k (with_next all r e)
part_next k all r e p = (prefix_more k.rows all.rows (r ∷ []) p.0, prefix_more k.entries all.entries (e ∷ []) p.1)

-- of two parts the one that knows more is a part
more_by : (b : Bool) (k l all : Known) → IsPartOf k all → IsPartOf l all → IsPartOf (if b then l else k) all
more_by true k l all p q = q
more_by false k l all p q = p

pub part_more : (k l all : Known) → IsPartOf k all → IsPartOf l all → IsPartOf (more_known k l) all
part_more k l all p q = more_by (nat_lt (length k.rows) (length l.rows)) k l all p q

more_of : (b : Bool) (k l : Known) → b ≡ true → (if b then l else k) ≡ l
more_of b k l e = ap (λ (t : Bool). if t then l else k) e

-- all with one row and one entry more is more than a part
pub more-next : (k all : Known) (r : StatusRow) (e : Entry) → IsPartOf k all → more_known k (with_next all r e) ≡ with_next all r e
more-next k all r e p =
    let least = prefix_length k.rows all.rows p.0 in
    let long : length (all.rows ++ r ∷ []) ≡ length all.rows + 1 = length-append all.rows (r ∷ []) in
    more_of (nat_lt (length k.rows) (length (all.rows ++ r ∷ []))) k (with_next all r e) (lt-ltb _ _ (omega (arith, least, long)))

-- what holds of two holds of the one that knows more
pub more_holds : (P : Known → Type 0) (k l : Known) → P k → P l → P (more_known k l)
more_holds P k l p q = by (nat_lt (length k.rows) (length l.rows))
  where
    by : (b : Bool) → P (if b then l else k)
    by true = q
    by false = p

-- a part that is told of all knows all rows
pub told_rows : (k all : Known) → IsPartOf k all → (more_known k all).rows ≡ all.rows
told_rows k all part = by (nat_lt (length k.rows) (length all.rows)) refl
  where
    by : (b : Bool) → nat_lt (length k.rows) (length all.rows) ≡ b → (if b then all else k).rows ≡ all.rows
    by true _ = refl
    by false least = prefix_whole k.rows all.rows part.0 (ltb-false _ _ least)

-- what a seat knows once it was told of all rows, of its station and with its share of the ledger
pub record IsTaught (seat writer seat_after writer_after : View) (station share : ℕ) : Type 0 where
  pub part : IsPartOf seat.known writer.known
  pub writer_is : writer_after ≡ writer_of writer.known
  pub writes : seat_after.writes ≡ seat.writes
  pub rows : seat_after.known.rows ≡ writer.known.rows
  pub receipts : seat_after.receipts ≡ seat.receipts
  pub loads : seat_after.loads ≡ seat.loads
  pub own : share ≤ calls_of seat_after.known.rows station
  pub among : AreReceiptsIn seat_after.known.entries station share seat_after.receipts

-- where the writer compares what a seat knows with what it knows, and is copied, and the seat takes the copy in
pub learn : (seat writer same known compared kept copy end : View) (station share : ℕ) → share ≤ calls_of seat.known.rows station → AreReceiptsIn seat.known.entries station share seat.receipts
    → same ≡ seat → known ≡ copied_view seat → IsPartOf known.known writer.known → compared ≡ writer_of writer.known → kept ≡ compared → copy ≡ copied_view compared → end ≡ told_view same copy
    → IsTaught seat writer end kept station share
learn seat writer same known compared kept copy end station share own among stays copied is_part forgets left given joined =
    let part : IsPartOf seat.known writer.known = subst (λ (v : View). IsPartOf v.known writer.known) copied is_part in
    let copied_all : copy.known ≡ writer.known = ap (λ (v : View). v.known) given ∙ ap (λ (v : View). v.known) forgets in
    let now : end.known ≡ more_known seat.known writer.known = ap (λ (v : View). v.known) joined ∙ (λ i. more_known (stays i).known (copied_all i)) in
    let kept_receipts : end.receipts ≡ seat.receipts = ap (λ (v : View). v.receipts) joined ∙ ap (λ (v : View). v.receipts) stays in
    let within = within_of seat.known writer.known station share seat.receipts seat.loads part own among in
    let both = more_holds (λ (k : Known). (share ≤ calls_of k.rows station) × AreReceiptsIn k.entries station share seat.receipts) seat.known writer.known (own, among) (within.calls, within.receipts) in
    let there = subst (λ (k : Known). (share ≤ calls_of k.rows station) × AreReceiptsIn k.entries station share seat.receipts) (sym now) both in
    record {
      part = part;
      writer_is = left ∙ forgets;
      writes = ap (λ (v : View). v.writes) joined ∙ ap (λ (v : View). v.writes) stays;
      rows = ap (λ (k : Known). k.rows) now ∙ told_rows seat.known writer.known part;
      receipts = kept_receipts;
      loads = ap (λ (v : View). v.loads) joined ∙ ap (λ (v : View). v.loads) stays;
      own = there.0;
      among = subst (AreReceiptsIn end.known.entries station share) (sym kept_receipts) there.1;
    }

-- what a seat and the writer know once the row of the next entry was put up
pub record IsPutUp (e : Entry) (r : StatusRow) (seat writer : View) (seat_after writer_after : View) : Type 0 where
  pub part : IsPartOf seat.known writer.known
  pub writer_is : writer_after ≡ writer_of (with_next writer.known r e)
  pub seat_is : seat_after ≡ record { writes = seat.writes; known = with_next writer.known r e; noted = seat.noted; receipts = seat.receipts ++ receipt_of e ∷ []; loads = seat.loads }

-- where the writer notes what a seat knows, swaps the next row in and is copied, and the seat takes the copy in
pub put_up : (e : Entry) (r : StatusRow) (before words : List ℕ) (seat writer same known noting after kept copy end : View) → same ≡ seat → known ≡ copied_view seat → noting ≡ noting_view writer known
    → IsSwapOf e noting before words after → kept ≡ after → copy ≡ copied_view after → end ≡ answered_view e same copy → row_of_words words ≡ r → IsPutUp e r seat writer end kept
put_up e r before words seat writer same known noting after kept copy end stays copied notes swap left given joined read =
    let k : known.known ≡ seat.known = ap (λ (v : View). v.known) copied in
    let all : noting.known ≡ writer.known = ap (λ (v : View). v.known) notes in
    let noted : noting.noted ≡ seat.known = ap (λ (v : View). v.noted) notes ∙ k in
    let part : IsPartOf seat.known writer.known = subst (λ (y : Known × Known). IsPartOf y.0 y.1) (λ i. (noted i, all i)) swap.0 in
    let next : with_next noting.known (row_of_words words) e ≡ with_next writer.known r e = λ i. with_next (all i) (read i) e in
    let copied_all : copy.known ≡ with_next writer.known r e = ap (λ (v : View). v.known) given ∙ (ap (λ (v : View). v.known) swap.1 ∙ next) in
    let more : more_known same.known copy.known ≡ with_next writer.known r e =
    ap (λ (y : Known × Known). more_known y.0 y.1) (λ i. ((stays i).known, copied_all i)) ∙ more-next seat.known writer.known r e part in
    record {
      part = part;
      writer_is = left ∙ (swap.1 ∙ ap writer_of next);
      seat_is = joined ∙ (λ i. record { writes = (stays i).writes; known = more i; noted = (stays i).noted; receipts = (stays i).receipts ++ receipt_of e ∷ []; loads = (stays i).loads });
    }
