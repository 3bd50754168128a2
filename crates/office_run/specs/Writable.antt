-- What can be written.
use Rattle.std.specs.Prelude.{◌≡◌, nat_lt, Bool, false}
use Rattle.std.proofs.Props.{props}
use Rattle.dbf_image.specs.Table.{Table}
use Rattle.dbf_image.specs.Blocks.{next_free}
use Rattle.dbf_image.specs.Image.{IsOutside}
use Rattle.office_run.specs.declared.content.Content.{Content}
use Rattle.office_run.specs.declared.content.Content.TheVariants.{Table as OfTable, Memos, Index as OfIndex, Text}

-- the blocks of the table's memos are more than 32 bits count
abbrev pub has_too_many : Table → Bool
has_too_many table = nat_lt 4294967295 (next_free table)

-- a table can be written: a header can have the year of its date, and 32 bits count the blocks of its memos
abbrev pub CanBeWritten : Content → Type 0
CanBeWritten (OfTable table day) = ¬ IsOutside day.year × (has_too_many table.now ≡ false)
CanBeWritten (Memos table) = has_too_many table.now ≡ false
CanBeWritten (OfIndex index) = Unit {0}
CanBeWritten (Text text) = Unit {0}

-- there is one proof of it at most
pub CanBeWritten-prop : (content : Content) → IsProp (CanBeWritten content)
CanBeWritten-prop (OfTable table day) = hlevel props
CanBeWritten-prop (Memos table) = hlevel props
CanBeWritten-prop (OfIndex index) = hlevel props
CanBeWritten-prop (Text text) = hlevel props
