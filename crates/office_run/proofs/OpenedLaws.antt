-- The tables of a setup, and why they are not opened.
use Rattle.std.proofs.Common.{Bool, List, ℕ, Option}
use Rattle.catalogue_core.specs.Replay.{Opened}
use Rattle.folders.specs.declared.named.NamedFile.{NamedFile}
use Rattle.office_run.specs.declared.fault.ServeFault.{ServeFault}
use Rattle.office_run.specs.declared.fault.ServeFault.TheVariants.{Setup, File, Refused, Run, Close, NoMemory}
use Rattle.office_run.specs.Loading.{Read}
use Rattle.office_run.specs.WholeRun.{IsAllRead, IsReadFault}
use Rattle.office_run.specs.OpenedSetup.{IsOpenedFrom, IsOpenFault, IsOpenedBy, IsUnopened}

pub opened_by : (files : Option (List NamedFile)) (setup : List ℕ) (reindex : Bool) (read : Read) (opened : Opened) → IsAllRead files setup read → IsOpenedFrom reindex read opened → IsOpenedBy files setup reindex opened
opened_by files setup reindex read opened all from = record { read = read; all = all; from = from }

pub unread : (files : Option (List NamedFile)) (setup : List ℕ) (reindex : Bool) (fault : ServeFault) → IsReadFault files setup fault → IsUnopened files setup reindex fault
unread files setup reindex NoMemory h = tt
unread files setup reindex (Setup bad) h = h
unread files setup reindex (File path why) h = h
unread files setup reindex (Refused why) h = absurd h
unread files setup reindex (Run why) h = absurd h
unread files setup reindex (Close why) h = absurd h

pub unopened : (files : Option (List NamedFile)) (setup : List ℕ) (reindex : Bool) (read : Read) (fault : ServeFault) → IsAllRead files setup read → IsOpenFault reindex read fault → IsUnopened files setup reindex fault
unopened files setup reindex read NoMemory all h = tt
unopened files setup reindex read (Setup bad) all h = absurd h
unopened files setup reindex read (File path why) all h = absurd h
unopened files setup reindex read (Refused why) all h = (read, all, h)
unopened files setup reindex read (Run why) all h = absurd h
unopened files setup reindex read (Close why) all h = absurd h
