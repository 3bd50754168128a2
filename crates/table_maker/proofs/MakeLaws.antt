-- The files of a table, as a folder has them.
use Rattle.std.proofs.Common.{◌≡◌, ℕ, List, [], ◌∷◌, ◌++◌, Bool, true, false, cond, subst, ◌==◌, ◌&&◌, Option, refl, ap, ◌∙◌, sym}
use Rattle.std.specs.Prelude.{bytes_eq, Result, Ok, Err, OnOk}
use Rattle.std.specs.List.{IsDistinct}
use Rattle.std.proofs.lemmas.List.{append-nil}
use Rattle.byte_io.specs.Sink.{grown}
use Rattle.byte_io.specs.Laws.Sinks.{grown_then}
use Rattle.dbf_fields.specs.declared.day.Day.{Day}
use Rattle.dbf_image.specs.Table.{Table, has_memos}
use Rattle.folders.specs.declared.named.NamedFile.{NamedFile}
use Rattle.folders.specs.Files.{opening, listing, IsOfBytes}
use Rattle.folders.specs.Placed.{IsListedAfter}
use Rattle.folders.proofs.ListingLaws.{files_again}
use Rattle.table_maker.specs.Making.{dated_file, files_of_table, memo_file, table_extension, memos_extension}

-- ---- the two names differ

and_false : (q : Bool) → (q && false) ≡ false
and_false true = refl
and_false false = refl

differ_after : (stem a b : List ℕ) → bytes_eq a b ≡ false → bytes_eq (stem ++ a) (stem ++ b) ≡ false
differ_after [] a b h = h
differ_after (x ∷ stem) a b h = ap (λ (q : Bool). (x == x) && q) (differ_after stem a b h) ∙ and_false (x == x)

extensions_differ : (in_capitals : Bool) → bytes_eq (table_extension in_capitals) (memos_extension in_capitals) ≡ false
extensions_differ true = refl
extensions_differ false = refl

names_differ : (stem : List ℕ) (in_capitals : Bool) → bytes_eq (stem ++ table_extension in_capitals) (stem ++ memos_extension in_capitals) ≡ false
names_differ stem in_capitals = differ_after stem (table_extension in_capitals) (memos_extension in_capitals) (extensions_differ in_capitals)

-- ---- the files

without_end : (a b : List ℕ) → (a ++ []) ++ b ≡ a ++ b
without_end a b = ap (λ (xs : List ℕ). xs ++ b) (append-nil a)

module _ (stem : List ℕ) (in_capitals : Bool) (day : Day) (table : Table) (old : Option (List ℕ)) where
  abbrev own : NamedFile
  own = dated_file (stem ++ table_extension in_capitals) table day

  abbrev memos : NamedFile
  memos = memo_file (stem ++ memos_extension in_capitals) table

  own_same : (name : List ℕ) → name ≡ stem ++ table_extension in_capitals → dated_file name table day ≡ own
  own_same name named = λ i. dated_file (named i) table day

  memos_same : (name : List ℕ) → name ≡ stem ++ memos_extension in_capitals → memo_file name table ≡ memos
  memos_same name named = λ i. memo_file (named i) table

  -- of a table without memos one
  pub one_listed : (new : Option (List ℕ)) (name : List ℕ) → name ≡ stem ++ table_extension in_capitals → has_memos table.schema ≡ false
      → new ≡ grown old (listing (dated_file name table day ∷ [])) → IsOfBytes (dated_file name table day) → IsListedAfter (λ files. files ≡ files_of_table stem in_capitals day table) old new
  unfolding IsDistinct
  one_listed new name named none written bytes =
      let same = own_same name named in
      let fine : IsOfBytes own = subst (λ (file : NamedFile). IsOfBytes file) same bytes in
      record {
        files = own ∷ [];
        such = ap (λ (q : Bool). own ∷ cond q (memos ∷ []) []) (sym none);
        written = written ∙ ap (λ (file : NamedFile). grown old (listing (file ∷ []))) same;
        bytes = (fine, tt);
        told = files_again (own ∷ []) (fine, tt);
        distinct = (tt, tt);
      }

  -- and of another both
  pub two_listed : (middle new : Option (List ℕ)) (name other : List ℕ) → name ≡ stem ++ table_extension in_capitals → other ≡ stem ++ memos_extension in_capitals
      → has_memos table.schema ≡ true → middle ≡ grown old (listing (dated_file name table day ∷ [])) → IsOfBytes (dated_file name table day)
      → new ≡ grown middle (listing (memo_file other table ∷ [])) → IsOfBytes (memo_file other table) → IsListedAfter (λ files. files ≡ files_of_table stem in_capitals day table) old new
  unfolding IsDistinct
  two_listed middle new name other named others some first bytes second others_bytes =
      let same = own_same name named in
      let same_memos = memos_same other others in
      let fine : IsOfBytes own = subst (λ (file : NamedFile). IsOfBytes file) same bytes in
      let fine_memos : IsOfBytes memos = subst (λ (file : NamedFile). IsOfBytes file) same_memos others_bytes in
      record {
        files = own ∷ memos ∷ [];
        such = ap (λ (q : Bool). own ∷ cond q (memos ∷ []) []) (sym some);
        written =
            second
            ∙ (ap (λ (o : Option (List ℕ)). grown o (listing (memo_file other table ∷ []))) (first ∙ ap (λ (file : NamedFile). grown old (listing (file ∷ []))) same)
            ∙ (ap (λ (file : NamedFile). grown (grown old (listing (own ∷ []))) (listing (file ∷ []))) same_memos
            ∙ (grown_then old (listing (own ∷ [])) (listing (memos ∷ []))
            ∙ ap (λ (xs : List ℕ). grown old xs) (without_end (opening own.name ++ own.bytes) (listing (memos ∷ []))))));
        bytes = (fine, (fine_memos, tt));
        told = files_again (own ∷ memos ∷ []) (fine, (fine_memos, tt));
        distinct = ((names_differ stem in_capitals, tt), (tt, tt));
      }

-- ---- a file that is written

written_whole : (old begun new : Option (List ℕ)) (file : NamedFile) → begun ≡ grown old (opening file.name) → new ≡ grown begun file.bytes → new ≡ grown old (listing (file ∷ []))
written_whole old begun new file first second =
    second
    ∙ (ap (λ (o : Option (List ℕ)). grown o file.bytes) first
    ∙ (grown_then old (opening file.name) file.bytes ∙ ap (λ (xs : List ℕ). grown old xs) (sym (append-nil (opening file.name ++ file.bytes)))))

-- a file that was begun and whose bytes were written stands after what was there
pub written_file : {T E : Type 0} (r : Result T E) (old begun new : Option (List ℕ)) (file : NamedFile) → begun ≡ grown old (opening file.name)
    → OnOk r (new ≡ grown begun file.bytes) → OnOk r (new ≡ grown old (listing (file ∷ [])))
written_file (Ok x) old begun new file first second = written_whole old begun new file first second
written_file (Err e) old begun new file first second = tt
