use Rattle.std.proofs.Common.{◌≡◌, ◌+◌, List, Option, drop, length, take}
use Rattle.std.specs.Vec.Iter.{into_iter_items}
use Rattle.folders.specs.declared.named.NamedFile.{NamedFile}
use Rattle.setup_files.specs.EntryFiles.{AreEntriesRead}
use Rattle.office_run.specs.Loading.{first_refused, nothing, read_of, AreNamesOf, LoadAll}
use Rattle.office_run.proofs.loaded.Loaded.from_reads.Given as goal

abbrev pub invariant-loop-read : goal.invariant-loop-read
invariant-loop-read l = record {
  left : (files : Option (List NamedFile)) → AreEntriesRead files l.entries l.fn.reads.items → AreEntriesRead files (drop l.index l.entries) (into_iter_items l.read-iterator);
  read : (files : Option (List NamedFile)) → AreEntriesRead files l.entries l.fn.reads.items → LoadAll files (take l.index l.entries) nothing (read_of l.loaded);
  names : AreNamesOf l.names l.loaded.tables.items;
  first : first_refused l.entries l.fn.reads.items ≡ first_refused (drop l.index l.entries) (into_iter_items l.read-iterator);
  count : l.index + length (into_iter_items l.read-iterator) ≡ length l.entries;
}
