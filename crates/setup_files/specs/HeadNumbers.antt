-- The numbers at the head of a file of an index.
use Rattle.std.specs.Prelude.{ℕ, nat_lt, if◌then◌else◌, List, length}
use Rattle.ndx_index.specs.declared.format.TheConstants.{PAGE}
use Rattle.ndx_index.specs.Header.{header_numbers}
use Rattle.setup_files.specs.declared.head_numbers.IndexNumbers.{IndexNumbers}

-- how long the file is, and the numbers of its header page; these are 0 if the page isn't all there
abbrev pub index_numbers : List ℕ → IndexNumbers
index_numbers bytes =
    if nat_lt (length bytes) PAGE
    then record { file_length = length bytes; key_type = 0; unique_flag = 0; key_length = 0; record_size = 0 }
    else record {
      file_length = length bytes;
      key_type = (header_numbers bytes).key_type;
      unique_flag = (header_numbers bytes).unique_flag;
      key_length = (header_numbers bytes).key_len;
      record_size = (header_numbers bytes).record_size;
    }
