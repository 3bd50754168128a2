-- What a call that came off says of bytes.
use Rattle.std.proofs.Common.{◌≡◌, true, Result, Ok, Err}
use Rattle.std.specs.Prelude.{OnOk}
use Rattle.std.specs.List.{list_all}
use Rattle.byte_io.specs.Sink.{is_byte}
use Rattle.folders.specs.declared.named.NamedFile.{NamedFile}
use Rattle.folders.specs.Files.{IsOfBytes}

-- a file whose name is of bytes, and whose content is where the call came off
pub file_on_ok : {T E : Type 0} (r : Result T E) (file : NamedFile) → list_all is_byte file.name ≡ true → OnOk r (list_all is_byte file.bytes ≡ true) → OnOk r (IsOfBytes file)
file_on_ok (Ok x) file name bytes = record { name = name; bytes = bytes }
file_on_ok (Err e) file name bytes = tt
