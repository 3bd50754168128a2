-- Files by their names.
use Rattle.std.specs.Prelude.{◌≡◌, ◌≢◌, ℕ, ◌<◌, ◌==◌, Bool, true, false, not, is_some, nat_lt, List, [], ◌∷◌, ◌++◌, length, Option, Some, None, bytes_eq, flat_map, if◌then◌else◌}
use Rattle.std.specs.List.{list_all}
use Rattle.byte_io.specs.Sink.{is_byte}
use Rattle.dbf_fields.specs.Faults.{first_fault}
use Rattle.folders.specs.Paths.{is_reserved_path, list_beside}
use Rattle.folders.specs.declared.memory_folder.OpenFile.{OpenFile}
use Rattle.folders.specs.declared.named.NamedFile.{NamedFile}
use Rattle.folders.specs.declared.source.TheConstants.{MAX_FILE_BYTES}
use Rattle.folders.specs.declared.source.LoadFault.{LoadFault}
use Rattle.folders.specs.declared.source.LoadFault.TheVariants.{NoMemory, CannotRead, Unrecovered}
use Rattle.std.specs.IoError.{error_kind}
use Rattle.std.specs.declared.io.Error.{Error}
use Rattle.std.specs.declared.io.ErrorKind.TheVariants.{OutOfMemory}

-- the file has the path
abbrev pub is_at : List ℕ → NamedFile → Bool
is_at path file = bytes_eq file.name path

-- the bytes of the first file of a path
abbrev pub file_at : List NamedFile → List ℕ → Option (List ℕ)
file_at [] path = None
file_at (file ∷ files) path = if is_at path file then Some file.bytes else file_at files path

-- the bytes are those of the file of a path, where the files are known
abbrev pub HasBytesOf : Option (List NamedFile) → List ℕ → List ℕ → Type 0
HasBytesOf None path bytes = Unit {0}
HasBytesOf (Some files) path bytes = file_at files path ≡ Some bytes

-- a set's list is known to lie in the folder of a path
abbrev pub has_list_beside : Option (List NamedFile) → List ℕ → Bool
has_list_beside None path = false
has_list_beside (Some files) path = is_some (file_at files (list_beside path))

-- the bytes are those that a load of the path may give: the path ends with no reserved name, no list is known to lie
-- beside its file, and they are that file's, where the files are known
pub record IsFileOf (files : Option (List NamedFile)) (path bytes : List ℕ) : Type 0 where
  pub free : is_reserved_path path ≡ false
  pub recovered : has_list_beside files path ≡ false
  pub has : HasBytesOf files path bytes

-- the file of a path is known to be over the limit
abbrev pub IsTooLong : Option (List NamedFile) → List ℕ → Type 0
IsTooLong None path = ⊥
IsTooLong (Some files) path = (bytes : List ℕ) × (file_at files path ≡ Some bytes) × (MAX_FILE_BYTES < length bytes)

-- no file, or one over the limit
abbrev pub is_none_or_long : Option (List ℕ) → Bool
is_none_or_long None = true
is_none_or_long (Some bytes) = nat_lt MAX_FILE_BYTES (length bytes)

-- the file of a path is known not to be there, or to be over the limit
abbrev pub is_unreadable : Option (List NamedFile) → List ℕ → Bool
is_unreadable None path = false
is_unreadable (Some files) path = is_none_or_long (file_at files path)

-- Why no load gives the file of a path, as far as the files are known, as the first of three tests that fails: the path ends with a
-- reserved name; the list of a set lies beside its file, so that the set is not in place; the file is not there, or over the limit.
abbrev pub load_refusal : Option (List NamedFile) → List ℕ → Option LoadFault
load_refusal files path =
    first_fault ((not (is_reserved_path path), CannotRead) ∷ (not (has_list_beside files path), Unrecovered) ∷ (not (is_unreadable files path), CannotRead) ∷ [])

-- a list of a set lies in the folder of a path, where the files are known
abbrev pub IsUnrecovered : Option (List NamedFile) → List ℕ → Type 0
IsUnrecovered None path = Unit {0}
IsUnrecovered (Some files) path = has_list_beside (Some files) path ≡ true

-- what stands before a file's bytes: 256, the name, 257
abbrev pub opening : List ℕ → List ℕ
opening name = 256 ∷ (name ++ 257 ∷ [])

-- files as one list: of each 256, the name, 257 and the bytes
abbrev pub listing : List NamedFile → List ℕ
listing files = flat_map (λ file. opening file.name ++ file.bytes) files

-- the files of a folder in memory as one list
abbrev pub open_listing : List OpenFile → List ℕ
open_listing files = flat_map (λ file. opening file.name.items ++ file.bytes.items) files

-- such a list, read from its end: what stands before the next 256 or 257, the bytes of the file that it belongs to,
-- and the files after that
pub record FilesRead : Type 0 where
  pub text : List ℕ
  pub bytes : List ℕ
  pub files : List NamedFile

abbrev pub with_one_more : ℕ → FilesRead → FilesRead
with_one_more b r =
    if b == 256 then record { text = []; bytes = []; files = record { name = r.text; bytes = r.bytes } ∷ r.files }
    else if b == 257 then record { text = []; bytes = r.text; files = r.files }
    else record { text = b ∷ r.text; bytes = r.bytes; files = r.files }

abbrev pub files_read : List ℕ → FilesRead
files_read [] = record { text = []; bytes = []; files = [] }
files_read (b ∷ bs) = with_one_more b (files_read bs)

-- the files that a list of files (`listing`) has
abbrev pub files_in : List ℕ → List NamedFile
files_in list = (files_read list).files

-- the name and the bytes are below 256
pub record IsOfBytes (file : NamedFile) : Type 0 where
  pub name : list_all is_byte file.name ≡ true
  pub bytes : list_all is_byte file.bytes ≡ true

-- what a load answers where the system refuses: that memory was refused, or that the file can't be read
pub record IsLoadFaultOf (error : Error) (fault : LoadFault) : Type 0 where
  pub memory : error_kind error ≡ OutOfMemory → fault ≡ NoMemory
  pub other : error_kind error ≢ OutOfMemory → fault ≡ CannotRead
