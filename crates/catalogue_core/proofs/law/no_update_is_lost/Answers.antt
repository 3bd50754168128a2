use Rattle.catalogue_core.proofs.FitLaws.{keeps_the_last}
use Rattle.catalogue_core.proofs.UpdateLaws.{keeps_what_was, stays_until_deleted}
use Rattle.catalogue_core.proofs.law.no_update_is_lost.Goals as goal

pub returns-clause-last : goal.returns-clause-last
returns-clause-last c opened before later e table number field cell tables h puts none = keeps_the_last opened before later e table number field cell tables h puts none

pub returns-clause-rest : goal.returns-clause-rest
returns-clause-rest c opened before later table number field cell h table_counted counted there none = keeps_what_was opened before later table number field cell h table_counted counted there none

pub returns-clause-gone : goal.returns-clause-gone
returns-clause-gone c opened before later table number row h table_counted counted there unmarked none = stays_until_deleted opened before later table number row h table_counted counted there unmarked none
