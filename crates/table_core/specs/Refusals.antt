-- The numbers and the names of refusals.
use Rattle.std.specs.Prelude.{ℕ, List, codes}
use Rattle.table_core.specs.declared.refusal.Refusal.{Refusal}
use Rattle.table_core.specs.declared.refusal.Refusal.TheVariants.{NoTable, NoTableInUse, TableInUse, NeedsExclusive, NotLocked, OutOfRange, EndOfFile, BeginOfFile, NotIndexed, NoSuchField, TypeMismatch, NumberTooWide, BadDate, BadText, BadArea, AlreadyOpen, TableFull, NoSuchOrder, BadCommand, TooManyLocks, BadExpression, IndexNameUsed, TooManyIndexes}

abbrev code_and_name : Refusal → ℕ × List ℕ
code_and_name NoTable = (1, codes "NoTable")
code_and_name NoTableInUse = (2, codes "NoTableInUse")
code_and_name TableInUse = (3, codes "TableInUse")
code_and_name NeedsExclusive = (4, codes "NeedsExclusive")
code_and_name NotLocked = (5, codes "NotLocked")
code_and_name OutOfRange = (6, codes "OutOfRange")
code_and_name EndOfFile = (7, codes "EndOfFile")
code_and_name BeginOfFile = (8, codes "BeginOfFile")
code_and_name NotIndexed = (9, codes "NotIndexed")
code_and_name NoSuchField = (10, codes "NoSuchField")
code_and_name TypeMismatch = (11, codes "TypeMismatch")
code_and_name NumberTooWide = (12, codes "NumberTooWide")
code_and_name BadDate = (13, codes "BadDate")
code_and_name BadText = (14, codes "BadText")
code_and_name BadArea = (15, codes "BadArea")
code_and_name AlreadyOpen = (16, codes "AlreadyOpen")
code_and_name TableFull = (17, codes "TableFull")
code_and_name NoSuchOrder = (18, codes "NoSuchOrder")
code_and_name BadCommand = (19, codes "BadCommand")
code_and_name TooManyLocks = (20, codes "TooManyLocks")
code_and_name BadExpression = (21, codes "BadExpression")
code_and_name IndexNameUsed = (22, codes "IndexNameUsed")
code_and_name TooManyIndexes = (23, codes "TooManyIndexes")

-- the number of a refusal
abbrev pub code_of : Refusal → ℕ
code_of refusal = (code_and_name refusal).0

-- the name of a refusal
abbrev pub name_of : Refusal → List ℕ
name_of refusal = (code_and_name refusal).1
