-- Why a table is not made: the exit status, and what is said.
use Rattle.std.specs.Prelude.{ℕ, List, ◌++◌, codes}
use Rattle.field_list.specs.FaultWords.{field_list_words}
use Rattle.table_reader.specs.TableFiles.{load_words}
use Rattle.table_maker.specs.declared.fault.MakeFault.{MakeFault}
use Rattle.table_maker.specs.declared.fault.MakeFault.TheVariants as make

-- 2 for the list of fields and for a file that is there, 3 for want of memory, 4 for the folder
abbrev pub make_status : MakeFault → ℕ
make_status (make.Load path why) = 2
make_status (make.List path why) = 2
make_status make.Write = 4
make_status make.Exists = 2
make_status make.Unread = 4
make_status make.NoMemory = 3

-- what both jobs say of a file that was not written
abbrev pub unwritten_words : List ℕ
unwritten_words = codes "cannot write the table: is there room, and may the folder be written?"

-- what both jobs say of a name that has a file
abbrev pub exists_words : List ℕ
exists_words = codes "the table, or the file of its memos, is there already: --replace replaces it"

-- what both jobs say of a folder that can't be read
abbrev pub unread_words : List ℕ
unread_words = codes "cannot read the folder"

-- why a table is not made; of the list of fields, its path and why
abbrev pub make_words : MakeFault → List ℕ
make_words (make.Load path why) = path.now ++ (codes ": " ++ load_words path.now why)
make_words (make.List path why) = path.now ++ (codes ": " ++ field_list_words why)
make_words make.Write = unwritten_words
make_words make.Exists = exists_words
make_words make.Unread = unread_words
make_words make.NoMemory = codes "out of memory"
