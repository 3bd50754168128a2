-- A folder in memory as one list.
use Rattle.std.proofs.Common.{◌≡◌, ℕ, List, [], ◌∷◌, ◌++◌, sym, ap, ◌∙◌, append_assoc}
use Rattle.std.proofs.lemmas.List.{append-nil}
use Rattle.folders.specs.declared.memory_folder.OpenFile.{OpenFile}
use Rattle.folders.specs.Files.{opening, open_listing}

abbrev one_of : OpenFile → List ℕ
one_of file = opening file.name.items ++ file.bytes.items

pub open_listing_last : (files : List OpenFile) (file : OpenFile) → open_listing (files ++ file ∷ []) ≡ open_listing files ++ one_of file
open_listing_last [] file = append-nil (one_of file)
open_listing_last (f ∷ files) file =
    ap (λ (w : List ℕ). one_of f ++ w) (open_listing_last files file) ∙ sym (append_assoc (one_of f) (open_listing files) (one_of file))

-- an empty file after the others
pub begun_last : (files : List OpenFile) (file : OpenFile) (name : List ℕ) → file.name.items ≡ name → file.bytes.items ≡ []
    → open_listing (files ++ file ∷ []) ≡ open_listing files ++ opening name
begun_last files file name e none = open_listing_last files file ∙ ap (λ (w : List ℕ). open_listing files ++ w) (rw (e, none) (append-nil (opening name)))

-- more bytes in the last file
pub written_last : (files : List OpenFile) (old new : OpenFile) (bytes : List ℕ) → new.name.items ≡ old.name.items → new.bytes.items ≡ old.bytes.items ++ bytes
    → open_listing (files ++ new ∷ []) ≡ open_listing (files ++ old ∷ []) ++ bytes
written_last files old new bytes e more =
    open_listing_last files new
    ∙ (ap (λ (w : List ℕ). open_listing files ++ w) (rw (e, more) (sym (append_assoc (opening old.name.items) old.bytes.items bytes)))
    ∙ (sym (append_assoc (open_listing files) (one_of old) bytes)
    ∙ ap (λ (w : List ℕ). w ++ bytes) (sym (open_listing_last files old))))
