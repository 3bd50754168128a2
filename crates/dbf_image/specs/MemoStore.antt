-- A store as a finite map from numbers to texts.
use Rattle.std.specs.Prelude.{ℕ, ◌+◌, ◌*◌, List, length, Option}
use Rattle.std.specs.List.{sum_by}
use Rattle.std.specs.Ordering.{nat_cmp}
use Rattle.std.specs.Coded.{Coded, coded_ℕ, coded_list, coded×, code_by}
use Rattle.std.specs.FinMap as map
use Rattle.std.proofs.Common.{refl}
use Rattle.dbf_image.specs.declared.format.TheConstants.{BLOCK}
use Rattle.dbf_image.specs.MemoChains.{blocks_in}

-- texts by their numbers
abbrev pub Texts : Type 0
Texts = map.FinMap nat_cmp (List ℕ)

abbrev pub get_text : Texts → ℕ → Option (List ℕ)
get_text texts number = map.get texts number

-- how many blocks the texts take
abbrev pub used_blocks : Texts → ℕ
used_blocks texts = sum_by (λ e. blocks_in (length e.1)) (map.entries texts)

-- how many blocks these texts take, each by itself
abbrev pub blocks_of_all : List (List ℕ) → ℕ
blocks_of_all texts = sum_by (λ text. blocks_in (length text)) texts

-- a store's texts, and how many bytes the next text may have without memory being taken
pub record Memos : Type 0 where
  pub texts : Texts
  pub spare : ℕ

-- the bytes of all blocks: those of the texts' blocks, and the spare ones
abbrev pub all_bytes : Memos → ℕ
all_bytes memos = BLOCK * used_blocks memos.texts + memos.spare

-- as a pair
abbrev pub coded_memos : Coded Memos
coded_memos = code_by (map.FinMap nat_cmp (List ℕ) × ℕ) (coded× (map.code coded_ℕ (coded_list coded_ℕ)) coded_ℕ) (λ m. (m.texts, m.spare)) (λ p. record { texts = p.0; spare = p.1 }) (λ _. refl)
