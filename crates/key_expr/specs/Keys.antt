-- The key of a record, by cases on the expression.
use Rattle.std.specs.Prelude.{◌≡◌, ◌≢◌, ℕ, ◌+◌, ◌-◌, Bool, ◌||◌, ◌==◌, List, [], ◌++◌, map, take, drop, get_or, min, Option, Some, unwrap_or, slice_get}
use Rattle.std.specs.Char.{to_ascii_uppercase}
use Rattle.dbf_fields.specs.declared.field.Field.{Field}
use Rattle.dbf_fields.specs.declared.format.TheConstants.{MEMO}
use Rattle.dbf_fields.specs.Date.{date_shown}
use Rattle.dbf_fields.specs.Layout.{width_of}
use Rattle.key_expr.specs.Grammar.{Expr, field, concat, upper, substr, str, dtoc}
use Rattle.key_expr.specs.declared.format.TheConstants.{STR_LENGTH, DTOC_LENGTH}
use Rattle.key_expr.specs.StrText.{str_text}

-- A STR prints `STR_LENGTH` bytes where no length is given, and no decimals where none are.
abbrev pub length_given : Option ℕ → ℕ
length_given n = unwrap_or n STR_LENGTH

abbrev pub decimals_given : Option ℕ → ℕ
decimals_given d = unwrap_or d 0

-- the key of a record's cells
abbrev pub key : List (List ℕ) → Expr → List ℕ
key cells (field i) = get_or cells i []
key cells (concat a b) = key cells a ++ key cells b
key cells (upper a) = map to_ascii_uppercase (key cells a)
key cells (substr a from count) = take count (drop (from - 1) (key cells a))
key cells (str i n d) = str_text (length_given n) (decimals_given d) (get_or cells i [])
key cells (dtoc i) = date_shown (get_or cells i [])

-- how many bytes the key of each record has
abbrev pub key_length : List Field → Expr → ℕ
key_length fields (field i) = width_of fields i
key_length fields (concat a b) = key_length fields a + key_length fields b
key_length fields (upper a) = key_length fields a
key_length fields (substr a from count) = min count (key_length fields a - (from - 1))
key_length fields (str i n d) = length_given n
key_length fields (dtoc i) = DTOC_LENGTH

-- whether the expression names this field
abbrev pub names : ℕ → Expr → Bool
names f (field i) = i == f
names f (concat a b) = names f a || names f b
names f (upper a) = names f a
names f (substr a from count) = names f a
names f (str i n d) = i == f
names f (dtoc i) = i == f

-- it holds of each field that the expression names
abbrev pub OfEachField : (ℕ → Type 0) → Expr → Type 0
OfEachField P (field i) = P i
OfEachField P (concat a b) = OfEachField P a × OfEachField P b
OfEachField P (upper a) = OfEachField P a
OfEachField P (substr a from count) = OfEachField P a
OfEachField P (str i n d) = P i
OfEachField P (dtoc i) = P i

-- the field is there, and is no memo
abbrev pub IsNoMemo : List Field → ℕ → Type 0
IsNoMemo fields i = (f : Field) × (slice_get fields i ≡ Some f) × (f.kind ≢ MEMO)

-- the cells of two records are the same, except those of memos
abbrev pub AgreeButMemos : List Field → List (List ℕ) → List (List ℕ) → Type 0
AgreeButMemos fields cs ds = (i : ℕ) → IsNoMemo fields i → get_or cs i [] ≡ get_or ds i []

-- it is the key of the cells, and of all others that are the same except those of memos
abbrev pub IsKeyWhateverMemos : List Field → List (List ℕ) → Expr → List ℕ → Type 0
IsKeyWhateverMemos fields known e bytes = (cells : List (List ℕ)) → AgreeButMemos fields known cells → bytes ≡ key cells e

-- the cells have one key, whatever stands in those of memos
abbrev pub HasKeyWhateverMemos : List Field → List (List ℕ) → Expr → Type 0
HasKeyWhateverMemos fields known e = IsKeyWhateverMemos fields known e (key known e)
