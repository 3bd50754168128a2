-- What the steps of the store ask for and do.
use Rattle.std.specs.Prelude.{◌≡◌, ◌≢◌, ℕ, ◌+◌, ◌*◌, ◌<◌, ◌≤◌, ◌⊎◌, true, false, suc, List, length, take, nat_eq}
use Rattle.std.specs.List.{list_any, sum_by}
use Rattle.dbf_image.specs.declared.memo_store.block.MemoBlock.{MemoBlock}
use Rattle.dbf_image.specs.declared.memo_store.block.FreeList.{FreeList}
use Rattle.dbf_image.specs.declared.format.TheConstants.{BLOCK}
use Rattle.dbf_image.specs.MemoChains.{block_at, text_from, IsChain, blocks_owned, is_kept, free_one, Alike}

-- the first free blocks have room for the text
pub record CanFill (xs : List MemoBlock) (free : FreeList) (owner count : ℕ) (text : List ℕ) : Type 0 where
  pub chain : IsChain 0 free.count xs free.head
  pub enough : count ≤ free.count
  pub owned : 0 < owner
  pub room : length text ≤ BLOCK * count

-- the text stands in the first free blocks
pub record Fills (xs ys : List MemoBlock) (free rest : FreeList) (owner count : ℕ) (text : List ℕ) : Type 0 where
  pub same_length : length ys ≡ length xs
  pub written : text_from count ys free.head ≡ text
  pub chain : IsChain owner count ys free.head
  pub left : rest.count + count ≡ free.count
  pub still_free : IsChain 0 rest.count ys rest.head
  -- only free blocks change, and all that change belong to the text
  pub held : (j : ℕ) → (block_at xs j).owner ≢ 0 → block_at ys j ≡ block_at xs j
  pub changed : (j : ℕ) → (block_at ys j ≡ block_at xs j) ⊎ ((block_at ys j).owner ≡ owner)
  -- `count` free blocks are the text's now
  pub taken : blocks_owned 0 ys + count ≡ blocks_owned 0 xs
  pub given : blocks_owned owner ys ≡ blocks_owned owner xs + count
  pub others : (q : ℕ) → q ≢ 0 → q ≢ owner → blocks_owned q ys ≡ blocks_owned q xs

-- the first n marks are taken away
pub record Clears (n : ℕ) (xs ys : List MemoBlock) : Type 0 where
  pub same_length : length ys ≡ length xs
  pub alike : (j : ℕ) → Alike (block_at ys j) (block_at xs j)
  pub clear : (j : ℕ) → j < n → (block_at ys j).kept ≡ false

-- the blocks are marked that have one of the numbers
pub record Marks (xs ys : List MemoBlock) (numbers : List ℕ) : Type 0 where
  pub same_length : length ys ≡ length xs
  pub alike : (j : ℕ) → Alike (block_at ys j) (block_at xs j)
  pub marks : (j : ℕ) → j < length xs → (block_at ys j).kept ≡ list_any (nat_eq (suc j)) numbers

-- the first n blocks are free where their text isn't marked, and stay where it is
pub record Sweeps (n : ℕ) (xs ys : List MemoBlock) (free : FreeList) : Type 0 where
  pub same_length : length ys ≡ length xs
  pub chain : IsChain 0 free.count (take n ys) free.head
  pub count_bounded : free.count ≤ n
  pub counted : free.count ≡ sum_by free_one (take n ys)
  pub marks : (j : ℕ) → (block_at ys j).kept ≡ (block_at xs j).kept
  pub stay : (j : ℕ) → is_kept xs (block_at xs j).owner ≡ true → block_at ys j ≡ block_at xs j
  pub later : (j : ℕ) → n ≤ j → block_at ys j ≡ block_at xs j
  pub swept : (j : ℕ) → j < n → ((block_at ys j).owner ≡ 0) ⊎ (is_kept xs (block_at ys j).owner ≡ true)
  pub owners : (j : ℕ) → ((block_at ys j).owner ≡ 0) ⊎ ((block_at ys j).owner ≡ (block_at xs j).owner)
