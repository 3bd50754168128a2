-- Chains of blocks, and the texts that they hold.
use Rattle.std.specs.Prelude.{◌≡◌, ℕ, zero, suc, ◌+◌, ◌-◌, ◌*◌, ◌/◌, ◌^◌, ◌<◌, ◌≤◌, Bool, false, List, [], ◌++◌, length, slice_index_or, count_by, if◌then◌else◌, ◌==◌, Option, Some, None}
use Rattle.dbf_image.specs.declared.format.TheConstants.{BLOCK}
use Rattle.dbf_image.specs.declared.memo_store.block.MemoBlock.{MemoBlock}

-- past the end stands a free block
abbrev pub no_block : MemoBlock
no_block = record { piece = record { items = [] }; owner = 0; count = 0; next = 0; kept = false }

abbrev pub block_at : List MemoBlock → ℕ → MemoBlock
block_at bs i = slice_index_or bs i no_block

-- the bytes of the blocks of a chain, from block i on
abbrev pub text_from : ℕ → List MemoBlock → ℕ → List ℕ
text_from zero bs i = []
text_from (suc k) bs i = (block_at bs i).piece.items ++ text_from k bs (block_at bs i).next

-- the blocks of a chain from block i on are there, belong to o, and count down
abbrev pub IsChain : ℕ → ℕ → List MemoBlock → ℕ → Type 0
IsChain o zero bs i = Unit {0}
IsChain o (suc k) bs i = (i < length bs) × ((block_at bs i).owner ≡ o) × ((block_at bs i).count ≡ suc k) × IsChain o k bs (block_at bs i).next

-- a text has the number that follows the index of its first block
abbrev pub text_at : List MemoBlock → ℕ → Option (List ℕ)
text_at bs zero = None
text_at bs (suc i) = if (block_at bs i).owner == suc i then Some (text_from (block_at bs i).count bs i) else None

-- whether the text with this number is marked
abbrev pub is_kept : List MemoBlock → ℕ → Bool
is_kept bs zero = false
is_kept bs (suc i) = (block_at bs i).kept

-- 1 for a free block
abbrev pub free_one : MemoBlock → ℕ
free_one b = if b.owner == 0 then 1 else 0

-- how many blocks have this owner; the free ones have 0
abbrev pub blocks_owned : ℕ → List MemoBlock → ℕ
blocks_owned q bs = count_by (λ b. b.owner == q) bs

-- how many blocks a text of n bytes takes
abbrev pub blocks_in : ℕ → ℕ
blocks_in n = (n + (BLOCK - 1)) / BLOCK

-- of a text where there is one
abbrev pub text_blocks : Option (List ℕ) → ℕ
text_blocks None = 0
text_blocks (Some text) = blocks_in (length text)

-- each text has as many blocks as it takes, and a number without a text has none
abbrev pub AreCounted : List MemoBlock → Type 0
AreCounted bs = (i : ℕ) → blocks_owned (suc i) bs ≡ text_blocks (text_at bs (suc i))

-- each text is a chain
abbrev pub AreHeld : List MemoBlock → Type 0
AreHeld bs = (i : ℕ) → (block_at bs i).owner ≡ suc i → IsChain (suc i) (block_at bs i).count bs i

-- the same but for the mark
pub record Alike (b a : MemoBlock) : Type 0 where
  pub piece : b.piece.items ≡ a.piece.items
  pub owner : b.owner ≡ a.owner
  pub count : b.count ≡ a.count
  pub next : b.next ≡ a.next

-- ys has the blocks of xs, and free ones after them
pub record Grown (xs ys : List MemoBlock) : Type 0 where
  pub longer : length xs ≤ length ys
  pub stay : (j : ℕ) → j < length xs → block_at ys j ≡ block_at xs j
  pub free : (j : ℕ) → length xs ≤ j → (block_at ys j).owner ≡ 0

-- what is gathered, and what is left to gather
pub record Gathers (number count : ℕ) (bs : List MemoBlock) (head left at : ℕ) (text : List ℕ) : Type 0 where
  pub chain : IsChain number left bs at
  pub whole : text ++ text_from left bs at ≡ text_from count bs head

-- how many bytes were counted, and how many are left to count
pub record Counts (number count : ℕ) (bs : List MemoBlock) (head left at counted : ℕ) : Type 0 where
  pub chain : IsChain number left bs at
  pub whole : counted + length (text_from left bs at) ≡ length (text_from count bs head)
  pub bounded : counted + BLOCK * left ≤ BLOCK * 2 ^ 32
