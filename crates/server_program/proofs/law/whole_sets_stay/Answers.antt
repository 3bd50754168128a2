use Rattle.server_program.specs.Starts.{inputs_of}
use Rattle.server_program.proofs.Starts.{one_set, whole_sets}
use Rattle.server_program.proofs.law.whole_sets_stay.Goals as goal

pub returns-clause-whole : goal.returns-clause-whole
returns-clause-whole g c promised options old last first starts stands ends = whole_sets g.D.Disk.meaning promised options old starts first last stands ends

pub returns-clause-one : goal.returns-clause-one
returns-clause-one g c promised options names old last first starts same stands ends =
    one_set options names (inputs_of starts) old last same (whole_sets g.D.Disk.meaning promised options old starts first last stands ends)
