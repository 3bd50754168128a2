use Rattle.catalogue_core.proofs.LeftLaws.{leaves_the_record, leaves_the_table, meets_none}
use Rattle.catalogue_core.proofs.LeftLocks.{leaves_the_lock, stays_while_locked}
use Rattle.catalogue_core.proofs.TakenLocks.{takes_the_lock}
use Rattle.catalogue_core.proofs.law.a_locked_record_stays.Goals as goal

pub returns-clause-record : goal.returns-clause-record
returns-clause-record c s other command ok has station table number row differ locked there = leaves_the_record s other command ok has station table number row differ locked there

pub returns-clause-table : goal.returns-clause-table
returns-clause-table c s other command ok has station table differ alone = leaves_the_table s other command ok has station table differ alone

pub returns-clause-exclusive : goal.returns-clause-exclusive
returns-clause-exclusive c s other ok has station table number differ locked only = meets_none s other ok has station table number differ locked only

pub returns-clause-lock : goal.returns-clause-lock
returns-clause-lock c s other command ok has station table number differ locked = leaves_the_lock s other command station table number differ locked

pub returns-clause-history : goal.returns-clause-history
returns-clause-history c opened before between station table number row h others has there = stays_while_locked opened before between station table number row h others has there

pub returns-clause-taken : goal.returns-clause-taken
returns-clause-taken c s station command area number here asked got = takes_the_lock s station command area number here asked got
