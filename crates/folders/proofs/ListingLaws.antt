-- A folder's list read back.
use Rattle.std.proofs.Common.{◌≡◌, ℕ, ◌≤◌, ◌==◌, true, false, nat_lt, List, [], ◌∷◌, ◌++◌, sym, ap, refl, ◌∙◌, append_assoc, arith}
use Rattle.std.specs.List.{list_all, AllByRecursion}
use Rattle.std.proofs.lemmas.Bool.{and_parts}
use Rattle.std.proofs.lemmas.Bool.Decides.{nat_tests}
use Rattle.std.proofs.lemmas.List.{append-nil}
use Rattle.byte_io.specs.Sink.{is_byte}
use Rattle.folders.specs.declared.named.NamedFile.{NamedFile}
use Rattle.folders.specs.Files.{listing, FilesRead, with_one_more, files_read, files_in, IsOfBytes}

-- read after such a text
abbrev before : List ℕ → FilesRead → FilesRead
before text r = record { text = text ++ r.text; bytes = r.bytes; files = r.files }

abbrev at_mark : List NamedFile → FilesRead
at_mark files = record { text = []; bytes = []; files = files }

no_mark : (b n : ℕ) → nat_lt b 256 ≡ true → 256 ≤ n → (b == n) ≡ false
no_mark b n low far = grind (arith, nat_tests, low, far)

one_byte : (b : ℕ) (r : FilesRead) → is_byte b ≡ true → with_one_more b r ≡ before (b ∷ []) r
one_byte b r low = rw (no_mark b 256 low (omega arith), no_mark b 257 low (omega arith)) refl

text_read : (text rest : List ℕ) → list_all is_byte text ≡ true → files_read (text ++ rest) ≡ before text (files_read rest)
text_read [] rest low = refl
text_read (b ∷ bs) rest low =
    let parts = and_parts (is_byte b) (list_all is_byte bs) low in
    ap (with_one_more b) (text_read bs rest parts.1) ∙ one_byte b (before bs (files_read rest)) parts.0

pub listing_read : (files : List NamedFile) → AllByRecursion IsOfBytes files → files_read (listing files) ≡ at_mark files
listing_read [] all = refl
listing_read (f ∷ fs) all =
    let rest : files_read (listing fs) ≡ at_mark fs = listing_read fs all.1 in
    let bytes : files_read (f.bytes ++ listing fs) ≡ before f.bytes (at_mark fs) = text_read f.bytes (listing fs) all.0.bytes ∙ ap (before f.bytes) rest in
    let named : files_read (f.name ++ 257 ∷ (f.bytes ++ listing fs)) ≡ before f.name (with_one_more 257 (before f.bytes (at_mark fs))) =
    text_read f.name (257 ∷ (f.bytes ++ listing fs)) all.0.name ∙ ap (λ (r : FilesRead). before f.name (with_one_more 257 r)) bytes in
    let whole_before_fault : listing (f ∷ fs) ≡ 256 ∷ (f.name ++ 257 ∷ (f.bytes ++ listing fs)) =
    ap (λ (l : List ℕ). 256 ∷ l) (append_assoc (f.name ++ 257 ∷ []) f.bytes (listing fs) ∙ append_assoc f.name (257 ∷ []) (f.bytes ++ listing fs)) in
    ap files_read whole_before_fault ∙ ap (with_one_more 256) named
    ∙ ap (λ (name : List ℕ). at_mark (record { name = name; bytes = f.bytes ++ [] } ∷ fs)) (append-nil f.name)
    ∙ ap (λ (text : List ℕ). at_mark (record { name = f.name; bytes = text } ∷ fs)) (append-nil f.bytes)

pub files_again : (files : List NamedFile) → AllByRecursion IsOfBytes files → files_in (listing files) ≡ files
files_again files all = ap (λ (r : FilesRead). r.files) (listing_read files all)

pub one_list : (a b : List NamedFile) → AllByRecursion IsOfBytes a → AllByRecursion IsOfBytes b → listing a ≡ listing b → a ≡ b
one_list a b all_a all_b same = sym (files_again a all_a) ∙ ap files_in same ∙ files_again b all_b
