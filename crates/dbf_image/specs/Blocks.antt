-- The file of memos that is written of a table, and the cells that tell where in it a text stands. Texts
-- come in order of record and field, from block 1 on.
use Rattle.std.specs.Prelude.{◌≡◌, ℕ, zero, suc, ◌+◌, ◌-◌, ◌*◌, ◌/◌, ◌%◌, ◌<◌, ◌==◌, List, [], ◌∷◌, ◌++◌, length, replicate, if◌then◌else◌}
use Rattle.byteorder.specs.Endian.{little_bytes}
use Rattle.dbf_fields.specs.declared.field.Field.{Field}
use Rattle.dbf_fields.specs.declared.format.TheConstants.{BLANK, MEMO, MEMO_WIDTH, ZERO_DIGIT}
use Rattle.dbf_image.specs.Table.{Row, Table}
use Rattle.dbf_image.specs.declared.format.TheConstants.{BLOCK, MAX_BLOCK_NUMBER, MEMO_END, VERSION}

-- a number at the right end of a cell of this width, with blanks before it; 0 is all blanks
unfoldable pub justified : ℕ → ℕ → List ℕ
justified zero n = []
justified (suc k) n = justified k (n / 10) ++ (if n == 0 then BLANK else ZERO_DIGIT + n % 10) ∷ []

-- how many blocks a text takes, with the two 0x1A after it; no text takes none
unfoldable pub blocks_of : List ℕ → ℕ
blocks_of [] = 0
blocks_of (b ∷ bs) = (length (b ∷ bs) + (BLOCK + 1)) / BLOCK

-- the blocks of a text: the text, 0x1A 0x1A, and zeros to the last block's end
unfoldable pub block_bytes : List ℕ → List ℕ
block_bytes [] = []
block_bytes (b ∷ bs) = (b ∷ bs) ++ (MEMO_END ∷ MEMO_END ∷ replicate (BLOCK * blocks_of (b ∷ bs) - (length (b ∷ bs) + 2)) 0)

-- a memo's cell, whose text takes the next free block
unfoldable pub block_number_cell : ℕ → List ℕ → List ℕ
block_number_cell next [] = justified MEMO_WIDTH 0
block_number_cell next (b ∷ bs) = justified MEMO_WIDTH next

-- a cell in the file of the table, how many blocks it takes, and what stands there
abbrev pub cell_bytes : ℕ → Field → List ℕ → List ℕ
cell_bytes next f cell = if f.kind == MEMO then block_number_cell next cell else cell

abbrev pub cell_blocks : Field → List ℕ → ℕ
cell_blocks f cell = if f.kind == MEMO then blocks_of cell else 0

abbrev pub cell_memo : Field → List ℕ → List ℕ
cell_memo f cell = if f.kind == MEMO then block_bytes cell else []

-- the same of all cells of a record, from the next free block on
abbrev pub cells_bytes : ℕ → List Field → List (List ℕ) → List ℕ
cells_bytes next [] cells = []
cells_bytes next (f ∷ fs) [] = []
cells_bytes next (f ∷ fs) (c ∷ cs) = cell_bytes next f c ++ cells_bytes (next + cell_blocks f c) fs cs

abbrev pub cells_blocks : List Field → List (List ℕ) → ℕ
cells_blocks [] cells = 0
cells_blocks (f ∷ fs) [] = 0
cells_blocks (f ∷ fs) (c ∷ cs) = cell_blocks f c + cells_blocks fs cs

abbrev pub cells_memos : List Field → List (List ℕ) → List ℕ
cells_memos [] cells = []
cells_memos (f ∷ fs) [] = []
cells_memos (f ∷ fs) (c ∷ cs) = cell_memo f c ++ cells_memos fs cs

-- how many blocks the memos of all records take
abbrev pub rows_blocks : List Field → List Row → ℕ
rows_blocks fields [] = 0
rows_blocks fields (r ∷ rs) = cells_blocks fields r.cells + rows_blocks fields rs

abbrev pub rows_memos : List Field → List Row → List ℕ
rows_memos fields [] = []
rows_memos fields (r ∷ rs) = cells_memos fields r.cells ++ rows_memos fields rs

-- the next free block of a table's memos; block 0 is the header
abbrev pub next_free : Table → ℕ
next_free table = 1 + rows_blocks table.schema table.rows

-- the numbers of blocks end at 32 bits
abbrev pub HasTooManyBlocks : Table → Type 0
HasTooManyBlocks table = MAX_BLOCK_NUMBER < next_free table

-- the header: the next free block, and 3 at byte 16
abbrev pub memo_header : ℕ → List ℕ
memo_header next = little_bytes 4 next ++ (replicate 12 0 ++ (VERSION ∷ replicate (BLOCK - 17) 0))

-- the one file that is written of a table's memos
abbrev pub memo_image : Table → List ℕ
memo_image table = memo_header (next_free table) ++ rows_memos table.schema table.rows

-- where the field is a memo, its text has this length
abbrev pub HasMemoLength : Field → List ℕ → ℕ → Type 0
HasMemoLength f text text_length = f.kind ≡ MEMO → length text ≡ text_length

-- what is written of a field: where its memo's text stands, or else its bytes
abbrev pub written_cell : ℕ → Field → List ℕ → List ℕ → List ℕ
written_cell next f text bytes = cell_bytes next f (if f.kind == MEMO then text else bytes)
