-- How long a table's file has to be.
use Rattle.std.specs.Prelude.{ℕ, ◌+◌, ◌*◌, nat_lt, if◌then◌else◌}
use Rattle.dbf_image.specs.declared.format.TheConstants.{HEADER}
use Rattle.dbf_image.specs.declared.dbf.header.TableNumbers.{TableNumbers}

-- how long a table's file has to be, by its header
abbrev pub wanted_length : TableNumbers → ℕ
wanted_length numbers = if nat_lt numbers.file_length HEADER then HEADER else numbers.header_length + numbers.record_count * numbers.record_length
