use Rattle.std.proofs.Common.{List, Option, drop}
use Rattle.folders.specs.declared.named.NamedFile.{NamedFile}
use Rattle.setup_files.specs.EntryFiles.{AreEntriesRead}
use Rattle.setup_check.proofs.ScriptTextLaws.{TellsSo}
use Rattle.setup_check.proofs.scripts.scripts_text.Given as goal

abbrev pub invariant-loop-index : goal.invariant-loop-index
invariant-loop-index l = (files : Option (List NamedFile)) → AreEntriesRead files l.entries l.reads → TellsSo files l.told l.entries (drop l.index l.entries) l.text.items
