-- Bytes are the file of one index at most.
use Rattle.std.proofs.Common.{◌≡◌, ◌≢◌, ℕ, List, Option, Some, None, Result, Ok, Err, inl, inr, refl, sym, ◌∙◌, subst}
use Rattle.std.specs.Prelude.{IfOk, IfErr}
use Rattle.ndx_index.specs.declared.pair.Pair.{Pair}
use Rattle.ndx_index.specs.declared.fault.NdxFault.{NdxFault}
use Rattle.ndx_index.specs.declared.fault.NdxFault.TheVariants.{Truncated, NumericIndex, UniqueIndex, BadKeyLength, BadRecordSize, PageOutside, PageTwice, TooManyEntries, MixedPage, NoMemory}
use Rattle.ndx_index.specs.declared.ndx_file.NdxFile.{NdxFile}
use Rattle.ndx_index.specs.declared.fault.BadIndex.{BadIndex}
use Rattle.ndx_index.specs.declared.read.header.Header.{Header}
use Rattle.ndx_index.specs.Header.{header_refusal, ndx_header, IsIndex, HasNdxFault, IsRefusedPage}
use Rattle.ndx_index.specs.NdxTree.{BadPage}
use Rattle.ndx_index.specs.Reading.{IsOnly, IsWalkFault, StopsAt, without_page}
use Rattle.ndx_index.proofs.Laws.{visits_from_tree, one_walk}

only_memory : (e : NdxFault) → ((e ≢ NoMemory) → ⊥) → e ≡ NoMemory
only_memory Truncated h = absurd (h (λ is. cc))
only_memory NumericIndex h = absurd (h (λ is. cc))
only_memory UniqueIndex h = absurd (h (λ is. cc))
only_memory BadKeyLength h = absurd (h (λ is. cc))
only_memory BadRecordSize h = absurd (h (λ is. cc))
only_memory PageOutside h = absurd (h (λ is. cc))
only_memory PageTwice h = absurd (h (λ is. cc))
only_memory TooManyEntries h = absurd (h (λ is. cc))
only_memory MixedPage h = absurd (h (λ is. cc))
only_memory NoMemory h = refl

-- an index file breaks no rule
pub unbroken : (bytes text : List ℕ) (key_len : ℕ) (pairs : List Pair) (e : NdxFault) → IsIndex bytes text key_len pairs → HasNdxFault bytes e → ⊥
unbroken bytes text key_len pairs e is (inl broken) =
    let a : header_refusal bytes ≡ None = is.header_is in
    let b : header_refusal bytes ≡ Some e = broken in
    absurd cc
unbroken bytes text key_len pairs e is (inr broken) =
    let header = ndx_header bytes in
    let one = one_walk header.layout bytes (visits_from_tree header.layout bytes header.root is.pages pairs is.tree) broken.1.3 in
    let clash : None ≡ Some (record { page = broken.0; why = e }) = one.2 in
    absurd cc

-- a page that is refused is that of a broken rule
pub fault_of_page : (bytes : List ℕ) (why : NdxFault) (page : Option ℕ) → IsRefusedPage bytes why page → HasNdxFault bytes why
fault_of_page bytes why None refused = inl refused
fault_of_page bytes why (Some page) refused = inr (page, refused)

pub only_from : (bytes text : List ℕ) (key_len : ℕ) (pairs : List Pair) (r : Result NdxFile BadIndex)
    → IfOk r (λ file. IsIndex bytes file.expr file.key_len file.pairs.pairs) → IfErr r (λ bad. bad.why ≢ NoMemory → IsRefusedPage bytes bad.why bad.page)
    → IsIndex bytes text key_len pairs → IsOnly text key_len pairs (without_page r)
only_from bytes text key_len pairs (Ok file) found refused is =
    let header = ndx_header bytes in
    let one = one_walk header.layout bytes (visits_from_tree header.layout bytes header.root found.pages file.pairs.pairs found.tree) (visits_from_tree header.layout bytes header.root is.pages pairs is.tree) in
    (found.text_is ∙ sym is.text_is, found.length_is ∙ sym is.length_is, one.1)
only_from bytes text key_len pairs (Err bad) found refused is =
    only_memory bad.why (λ ne. unbroken bytes text key_len pairs bad.why is (fault_of_page bytes bad.why bad.page (refused ne)))

-- the walk ends at a page
pub broken_rule : (bytes : List ℕ) (header : Header) → header ≡ ndx_header bytes → header_refusal bytes ≡ None → (bad : BadIndex)
    → IsWalkFault header.layout bytes header.root bad → bad.why ≢ NoMemory → IsRefusedPage bytes bad.why bad.page
broken_rule bytes header is accepted bad (inl none) ne = absurd (ne none)
broken_rule bytes header is accepted bad (inr ends) ne =
    let at : BadPage = record { page = ends.0; why = bad.why } in
    let there = subst (λ (h : Header). StopsAt h.layout bytes h.root at) is ends.2 in
    subst (IsRefusedPage bytes bad.why) (sym ends.1) (accepted, there.0, there.1, there.2)
