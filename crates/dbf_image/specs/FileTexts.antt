-- The texts that stand in the bytes of a file, under numbers of their own.
use Rattle.std.specs.Prelude.{◌≡◌, ℕ, suc, ◌+◌, ◌≤◌, ◌<◌, ◌==◌, false, Bool, List, [], ◌∷◌, length, take, drop, slice_index_or, nat_eq, Option, Some, None, if◌then◌else◌}
use Rattle.std.specs.List.{list_any, sum_by}
use Rattle.std.specs.FinMap as map
use Rattle.dbf_image.specs.declared.memo_store.file_text.FileText.{FileText}
use Rattle.dbf_image.specs.declared.memo_store.file_text.TheConstants.{FILE_TEXTS}
use Rattle.dbf_image.specs.MemoChains.{blocks_in}
use Rattle.dbf_image.specs.MemoStore.{Texts}

-- past the end stands no text
abbrev pub no_file_text : FileText
no_file_text = record { start = 0; length = 0; kept = false }

abbrev pub file_text_at : List FileText → ℕ → FileText
file_text_at ts i = slice_index_or ts i no_file_text

-- the bytes of a text of a file: those of a part of the file
abbrev pub file_bytes : List ℕ → FileText → List ℕ
file_bytes file t = take t.length (drop t.start file)

-- the text in a part of a file; a part without bytes is that of a text that was dropped, and has none
abbrev pub file_text : List ℕ → FileText → Option (List ℕ)
file_text file t = if t.length == 0 then None else Some (file_bytes file t)

-- these texts, and with them those of a file, the first of which has the number n
abbrev pub with_file_texts : List ℕ → ℕ → List FileText → Texts → Texts
with_file_texts file n [] texts = texts
with_file_texts file n (t ∷ ts) texts =
    if t.length == 0 then with_file_texts file (suc n) ts texts else map.insert (with_file_texts file (suc n) ts texts) n (file_bytes file t)

-- the texts of a file, under the numbers from one on
abbrev pub file_texts : List ℕ → List FileText → Texts
file_texts file ts = with_file_texts file FILE_TEXTS ts map.empty

-- the text stands in the file
abbrev pub IsInFile : List ℕ → FileText → Type 0
IsInFile file t = t.start + t.length ≤ length file

-- how many blocks the texts of a file would take
abbrev pub blocks_of_file : List FileText → ℕ
blocks_of_file ts = sum_by (λ t. blocks_in t.length) ts

-- no number is that of a text of a file
abbrev pub AreBelow : ℕ → Texts → Type 0
AreBelow n texts = (q : ℕ) → n ≤ q → map.get texts q ≡ None

-- the first n texts have no mark, and nothing else is changed
pub record Unmarks (n : ℕ) (old new : List FileText) : Type 0 where
  pub same_length : length new ≡ length old
  pub starts : (i : ℕ) → (file_text_at new i).start ≡ (file_text_at old i).start
  pub lengths : (i : ℕ) → (file_text_at new i).length ≡ (file_text_at old i).length
  pub clear : (i : ℕ) → i < n → (file_text_at new i).kept ≡ false

-- the texts are marked that have one of the numbers, and nothing else is changed
pub record MarksTexts (old new : List FileText) (numbers : List ℕ) : Type 0 where
  pub same_length : length new ≡ length old
  pub starts : (i : ℕ) → (file_text_at new i).start ≡ (file_text_at old i).start
  pub lengths : (i : ℕ) → (file_text_at new i).length ≡ (file_text_at old i).length
  pub marks : (i : ℕ) → i < length old → (file_text_at new i).kept ≡ list_any (nat_eq (FILE_TEXTS + i)) numbers

-- the length of a text that stays where it is marked
abbrev pub length_kept : Bool → ℕ → ℕ
length_kept mark long = if mark then long else 0

-- of the first n texts those that have no mark are dropped
pub record DropsTexts (n : ℕ) (old new : List FileText) : Type 0 where
  pub same_length : length new ≡ length old
  pub starts : (i : ℕ) → (file_text_at new i).start ≡ (file_text_at old i).start
  pub lengths : (i : ℕ) → i < n → (file_text_at new i).length ≡ length_kept (file_text_at old i).kept (file_text_at old i).length
  pub later : (i : ℕ) → n ≤ i → file_text_at new i ≡ file_text_at old i

-- the texts of a file stay that have one of the numbers
pub record KeepsTexts (old new : List FileText) (numbers : List ℕ) : Type 0 where
  pub same_length : length new ≡ length old
  pub starts : (i : ℕ) → (file_text_at new i).start ≡ (file_text_at old i).start
  pub lengths : (i : ℕ) → (file_text_at new i).length ≡ length_kept (list_any (nat_eq (FILE_TEXTS + i)) numbers) (file_text_at old i).length
