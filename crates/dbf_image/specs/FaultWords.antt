-- What a fault is called, and what it says.
use Rattle.std.specs.Prelude.{ℕ, List, codes}
use Rattle.dbf_image.specs.declared.fault.ImageFault.{ImageFault}
use Rattle.dbf_image.specs.declared.fault.ImageFault.TheVariants as fault

-- the name of a fault, without a number that it carries
abbrev pub image_name : ImageFault → List ℕ
image_name fault.Truncated = codes "Truncated"
image_name fault.BadVersion = codes "BadVersion"
image_name fault.BadHeaderLength = codes "BadHeaderLength"
image_name fault.BadSchema = codes "BadSchema"
image_name fault.BadRecordLength = codes "BadRecordLength"
image_name fault.TooManyRecords = codes "TooManyRecords"
image_name fault.MemoFileMissing = codes "MemoFileMissing"
image_name fault.BadMemoNumber = codes "BadMemoNumber"
image_name fault.MemoOutside = codes "MemoOutside"
image_name fault.MemoTooLong = codes "MemoTooLong"
image_name fault.NoMemory = codes "NoMemory"

-- why bytes are no table, for a reader
abbrev pub image_words : ImageFault → List ℕ
image_words fault.Truncated = codes "the file is too short"
image_words fault.BadVersion = codes "the file is of no known version"
image_words fault.BadHeaderLength = codes "the header's length is bad"
image_words fault.BadSchema = codes "the fields are no schema"
image_words fault.BadRecordLength = codes "the records' length is bad"
image_words fault.TooManyRecords = codes "there are too many records"
image_words fault.MemoFileMissing = codes "the file of memos is missing"
image_words fault.BadMemoNumber = codes "a memo's number is bad"
image_words fault.MemoOutside = codes "a memo is outside its file"
image_words fault.MemoTooLong = codes "a memo is too long"
image_words fault.NoMemory = codes "out of memory"
