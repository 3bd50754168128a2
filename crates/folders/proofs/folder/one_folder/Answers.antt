use Rattle.folders.proofs.ListingLaws.{files_again, one_list}
use Rattle.folders.proofs.folder.one_folder.Goals as goal

pub returns-clause-files : goal.returns-clause-files
returns-clause-files c = files_again

pub returns-clause-one : goal.returns-clause-one
returns-clause-one c = one_list
