-- Chunks that are written one after the other make the whole.
use Rattle.dbf_image.proofs.ReadBack.{HasName, names_from}
use Rattle.std.proofs.Common.{◌≡◌, All, ℕ, ◌-◌, ◌≤◌, List, [], ◌∷◌, ◌++◌, length, replicate, append_assoc, arith, ap, refl, sym, ◌∙◌, ◌+◌, drop, set}
use Rattle.std.specs.Prelude.{flat_map}
use Rattle.std.proofs.lemmas.List.{drop-replicate, length-append, length-replicate, replicate-append-replicate, set-append_right}
use Rattle.std.proofs.lemmas.List.Elements.{All-from_recursion}
use Rattle.dbf_fields.specs.Schema.{IsSchema}
use Rattle.dbf_fields.proofs.SchemaLaws.{schema_names}
use Rattle.dbf_fields.specs.declared.field.Field.{Field}
use Rattle.dbf_image.specs.Image.{header_bytes, descriptor, rows_bytes, image}
use Rattle.byte_io.specs.Writer.{Wanted, more}
use Rattle.dbf_image.specs.Table.{Table}
use Rattle.byte_io.specs.Laws.Puts.{more_both}
use Rattle.dbf_image.specs.declared.format.TheConstants.{DESCRIPTOR, END_OF_FILE, HEADER_END, NAME_BYTES}

-- a descriptor, whose name, letter, width and decimals are written over zeros
pub descriptor_built : (f : Field) → length f.name ≤ NAME_BYTES → set (set (set (f.name ++ drop (length f.name) (replicate DESCRIPTOR 0)) 11 f.kind) 16 f.width) 17 f.decimals ≡ descriptor f
unfolding descriptor
descriptor_built f le =
    let pad : List ℕ = replicate (NAME_BYTES - length f.name) 0 in
    let front : List ℕ = f.name ++ pad in
    let long : length front ≡ NAME_BYTES = omega (arith, length-append f.name pad, length-replicate {A = ℕ} (NAME_BYTES - length f.name) 0) in
    let k : DESCRIPTOR - length f.name ≡ (NAME_BYTES - length f.name) + 21 = omega arith in
    let zeros : drop (length f.name) (replicate DESCRIPTOR 0) ≡ pad ++ replicate 21 0 =
    rw (drop-replicate {X = ℕ} (length f.name) DESCRIPTOR 0, k) (sym (replicate-append-replicate (NAME_BYTES - length f.name) 21 0)) in
    let whole : f.name ++ drop (length f.name) (replicate DESCRIPTOR 0) ≡ front ++ replicate 21 0 = ap (λ (xs : List ℕ). f.name ++ xs) zeros ∙ sym (append_assoc f.name pad (replicate 21 0)) in
    let kind : set (front ++ replicate 21 0) 11 f.kind ≡ front ++ (f.kind ∷ replicate 20 0) = set-append_right front (replicate 21 0) 11 11 f.kind long (omega arith) in
    let width : set (front ++ (f.kind ∷ replicate 20 0)) 16 f.width ≡ front ++ (f.kind ∷ (replicate 4 0 ++ (f.width ∷ replicate 15 0))) = set-append_right front (f.kind ∷ replicate 20 0) 11 16 f.width long (omega arith) in
    let decimals : set (front ++ (f.kind ∷ (replicate 4 0 ++ (f.width ∷ replicate 15 0)))) 17 f.decimals ≡ front ++ (f.kind ∷ (replicate 4 0 ++ (f.width ∷ f.decimals ∷ replicate 14 0))) =
    set-append_right front (f.kind ∷ (replicate 4 0 ++ (f.width ∷ replicate 15 0))) 11 17 f.decimals long (omega arith) in
    rw (whole, kind, width) decimals

-- the parts of a file
pub image_put : (w : Wanted) (table : Table) (year month day : ℕ)
    → more (more (more (more (more w (header_bytes table year month day)) (flat_map descriptor table.schema)) (HEADER_END ∷ [])) (flat_map (λ bytes. bytes) (rows_bytes 1 table.schema table.rows))) (END_OF_FILE ∷ []) ≡ more w (image table year month day)
image_put w table year month day =
    let a = header_bytes table year month day in
    let b = flat_map descriptor table.schema in
    let c : List ℕ = HEADER_END ∷ [] in
    let d = flat_map (λ bytes. bytes) (rows_bytes 1 table.schema table.rows) in
    let e : List ℕ = END_OF_FILE ∷ [] in
    more_both (more (more (more w a) b) c) d e (d ++ e) refl
    ∙ more_both (more (more w a) b) c (d ++ e) (c ++ (d ++ e)) refl
    ∙ more_both (more w a) b (c ++ (d ++ e)) (b ++ (c ++ (d ++ e))) refl
    ∙ more_both w a (b ++ (c ++ (d ++ e))) (image table year month day) refl

pub name_fits : (fs : List Field) → IsSchema fs → All HasName fs
name_fits fs s = All-from_recursion HasName fs (names_from fs (schema_names fs s))
