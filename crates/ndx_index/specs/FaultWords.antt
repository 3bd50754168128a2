-- What a fault is called, and what it says.
use Rattle.std.specs.Prelude.{ℕ, List, codes}
use Rattle.ndx_index.specs.declared.fault.NdxFault.{NdxFault}
use Rattle.ndx_index.specs.declared.fault.NdxFault.TheVariants as fault

-- the name of a fault, without a number that it carries
abbrev pub ndx_name : NdxFault → List ℕ
ndx_name fault.Truncated = codes "Truncated"
ndx_name fault.NumericIndex = codes "NumericIndex"
ndx_name fault.UniqueIndex = codes "UniqueIndex"
ndx_name fault.BadKeyLength = codes "BadKeyLength"
ndx_name fault.BadRecordSize = codes "BadRecordSize"
ndx_name fault.PageOutside = codes "PageOutside"
ndx_name fault.PageTwice = codes "PageTwice"
ndx_name fault.TooManyEntries = codes "TooManyEntries"
ndx_name fault.MixedPage = codes "MixedPage"
ndx_name fault.NoMemory = codes "NoMemory"

-- why an index file is refused, for a reader
abbrev pub ndx_words : NdxFault → List ℕ
ndx_words fault.Truncated = codes "the file is shorter than a header page"
ndx_words fault.NumericIndex = codes "the keys are numbers or dates"
ndx_words fault.UniqueIndex = codes "the index leaves out equal keys"
ndx_words fault.BadKeyLength = codes "the key length is none of 1 to 100"
ndx_words fault.BadRecordSize = codes "the size of a key record is impossible"
ndx_words fault.PageOutside = codes "a page lies outside the file"
ndx_words fault.PageTwice = codes "a page is met twice"
ndx_words fault.TooManyEntries = codes "a page has too many entries"
ndx_words fault.MixedPage = codes "a page is neither a leaf nor an inner page"
ndx_words fault.NoMemory = codes "out of memory"
