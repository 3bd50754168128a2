-- A store's texts: those in the bytes of its file, and those in blocks.
use Rattle.std.proofs.Common.{◌≡◌, ℕ, ◌+◌, ◌-◌, ◌*◌, ◌<◌, ◌≤◌, eqb, List, length, drop, Option, Some, None, IsSome, nat_eq, refl, ap, sym, ◌∙◌, subst, ⊎_elim, arith, inl, inr}
use Rattle.std.proofs.lemmas.Bool.{cases_Bool, cases_lt}
use Rattle.std.proofs.lemmas.List.{get_or_past, length-drop, length-take-le}
use Rattle.std.proofs.lemmas.List.Elements.{All-from_recursion}
use Rattle.std.specs.List.{list_any, AllByRecursion}
use Rattle.std.specs.FinMap.{get, insert, retain_keys}
use Rattle.dbf_image.specs.declared.memo_store.file_text.FileText.{FileText}
use Rattle.dbf_image.specs.declared.memo_store.file_text.TheConstants.{FILE_TEXTS}
use Rattle.dbf_image.specs.declared.memo_store.MemoStore.TheInside.{Inside}
use Rattle.dbf_image.specs.declared.format.TheConstants.{BLOCK}
use Rattle.dbf_image.specs.FileTexts.{no_file_text, file_text_at, file_bytes, file_text, with_file_texts, blocks_of_file, IsInFile, KeepsTexts}
use Rattle.dbf_image.specs.Laws.MemoCallers.{other_put, each_drop}
use Rattle.dbf_image.specs.MemoStore.{Memos, Texts, all_bytes}
use Rattle.dbf_image.specs.StoreView.{memos_view, IsMemoStore}
use Rattle.dbf_image.specs.TextBlocks.{block_total}
use Rattle.dbf_image.proofs.FileTextLaws.{get_below, get_high, never, below_drop, used_beside}
use Rattle.dbf_image.proofs.FileTextMarks.{keeps_inside, keeps_fewer}

-- the bytes of all blocks are those of the blocks
pub bytes_of_store : (x : Inside) → IsMemoStore x → all_bytes (memos_view x) ≡ BLOCK * block_total x.blocks
bytes_of_store x s = omega (arith, used_beside x.file.items FILE_TEXTS x.texts.items x.blocks.texts s.inside s.below, s.held, s.room)

-- ---- no text has the number 0

pub zero_put : (texts : Texts) (q : ℕ) (text : List ℕ) → 0 < q → get texts 0 ≡ None → get (insert texts q text) 0 ≡ None
zero_put texts q text some none = other_put texts (insert texts q text) q 0 text (λ s. absurd (omega (arith, s, some))) refl ∙ none

pub zero_drop : (texts left : Texts) (numbers : List ℕ) → left ≡ retain_keys texts (λ q. list_any (nat_eq q) numbers) → get texts 0 ≡ None → get left 0 ≡ None
zero_drop texts left numbers e none = each_drop texts left numbers 0 e ∙ rw none (never (list_any (nat_eq 0) numbers))

pub zero_of_all : (file : List ℕ) (ts : List FileText) (texts : Texts) → get texts 0 ≡ None → get (with_file_texts file FILE_TEXTS ts texts) 0 ≡ None
zero_of_all file ts texts none = get_below file FILE_TEXTS ts texts 0 (omega arith) ∙ none

-- ---- a text in blocks

pub low_text : (x : Inside) (v : Memos) (q : ℕ) → memos_view x ≡ v → q < FILE_TEXTS → get v.texts q ≡ get x.blocks.texts q
low_text x v q view lt = ap (λ (w : Memos). get w.texts q) (sym view) ∙ get_below x.file.items FILE_TEXTS x.texts.items x.blocks.texts q lt

pub low_held : (x : Inside) (v : Memos) (q : ℕ) → memos_view x ≡ v → q < FILE_TEXTS → IsSome (get v.texts q) → IsSome (get x.blocks.texts q)
low_held x v q view lt some = subst (λ (o : Option (List ℕ)). IsSome o) (low_text x v q view lt) some

-- ---- a text in the file

pub record InFile (file : List ℕ) (ts : List FileText) (texts : Texts) (number : ℕ) : Type 0 where
  pub within : number - FILE_TEXTS < length ts
  pub stop : (file_text_at ts (number - FILE_TEXTS)).start + (file_text_at ts (number - FILE_TEXTS)).length ≤ length file
  pub is : get texts number ≡ Some (file_bytes file (file_text_at ts (number - FILE_TEXTS)))

no_some : IsSome {T = List ℕ} None → ⊥
no_some h = absurd cc

some_is : (file : List ℕ) (t : FileText) → IsSome (file_text file t) → file_text file t ≡ Some (file_bytes file t)
some_is file t some = elim (cases_Bool (eqb t.length 0)) [
  | inl e ↦ absurd (no_some (rw e at some))
  | inr e ↦ rw e refl
]

pub in_file : (x : Inside) (v : Memos) (number : ℕ) → memos_view x ≡ v → IsMemoStore x → FILE_TEXTS ≤ number → IsSome (get v.texts number) → InFile x.file.items x.texts.items v.texts number
in_file x v number view s high some =
    let i : ℕ = number - FILE_TEXTS in
    let at : get v.texts number ≡ file_text x.file.items (file_text_at x.texts.items i) =
    ap (λ (w : Memos). get w.texts number) (sym view) ∙ get_high x.file.items FILE_TEXTS x.texts.items x.blocks.texts number high s.below in
    let held : IsSome (file_text x.file.items (file_text_at x.texts.items i)) = subst (λ (o : Option (List ℕ)). IsSome o) at some in
    let within : i < length x.texts.items = ⊎_elim
    (λ lt. lt)
    (λ le. absurd (no_some (subst (λ (t : FileText). IsSome (file_text x.file.items t)) (get_or_past x.texts.items i no_file_text le) held)))
    (cases_lt i (length x.texts.items)) in
    record {
      within = within;
      stop = All-from_recursion (IsInFile x.file.items) x.texts.items s.inside i no_file_text within;
      is = at ∙ some_is x.file.items (file_text_at x.texts.items i) held;
    }

pub file_length : (file : List ℕ) (t : FileText) → IsInFile file t → length (file_bytes file t) ≡ t.length
file_length file t inside = length-take-le t.length (drop t.start file) (omega (arith, inside, length-drop t.start file))

-- ---- what a drop leaves is a store

pub dropped_store : (x y : Inside) (numbers : List ℕ) → IsMemoStore x → y.file.items ≡ x.file.items → KeepsTexts x.texts.items y.texts.items numbers
    → y.blocks.texts ≡ retain_keys x.blocks.texts (λ q. list_any (nat_eq q) numbers) → x.blocks.spare ≤ y.blocks.spare → y.held ≡ blocks_of_file y.texts.items → IsMemoStore y
dropped_store x y numbers s file keeps left spare held =
    let fewer = keeps_fewer x.texts.items y.texts.items numbers keeps in
    record {
      inside = subst (λ (f : List ℕ). AllByRecursion (IsInFile f) y.texts.items) (sym file) (keeps_inside x.file.items x.texts.items y.texts.items numbers keeps s.inside);
      few = omega (arith, keeps.same_length, s.few);
      below = below_drop FILE_TEXTS x.blocks.texts y.blocks.texts numbers left s.below;
      no_zero = zero_drop x.blocks.texts y.blocks.texts numbers left s.no_zero;
      held = held;
      held_bounded = omega (arith, held, fewer, s.held, s.held_bounded);
      room = omega (arith, held, fewer, s.held, s.room, spare);
    }
