use Rattle.program_frame.proofs.EndLaws.{stopped_err}
use Rattle.program_frame.proofs.PlacingLaws.{recovering_old}
use Rattle.table_maker.proofs.PlaceLaws.{begun_load, stopped_exists, stopped_untried}
use Rattle.table_maker.proofs.in_place.begin_free.Goals as goal

pub returns-in-Err-clause-refused : goal.returns-in-Err-clause-refused
returns-in-Err-clause-refused g c = stopped_err _ c.in-Err.refused.ended c.in-Err.ensures.refused

pub returns-in-Err-clause-untried : goal.returns-in-Err-clause-untried
returns-in-Err-clause-untried g c = stopped_untried _ _ _ _ c.in-Err.refused.ended c.in-Err.ensures.refused

pub returns-in-Err-clause-exists : goal.returns-in-Err-clause-exists
returns-in-Err-clause-exists g c promised told =
    absurd (stopped_exists _ _ _ c.in-Err.refused.ended (c.exists_is_of_names_alone.ensures.work (g.S.Source.files c.args.source.now))
    c.exists_is_of_names_alone.ensures.memory c.in-Err.ensures.refused told)

pub returns-in-Err-clause-unread : goal.returns-in-Err-clause-unread
returns-in-Err-clause-unread g c told =
    absurd (stopped_exists _ _ _ c.in-Err.refused.ended (c.unread_is_of_the_folder_alone.ensures.work (g.S.Source.files c.args.source.now))
    c.unread_is_of_the_folder_alone.ensures.memory c.in-Err.ensures.refused told)

pub returns-in-Err-clause-failure : goal.returns-in-Err-clause-failure
returns-in-Err-clause-failure g c = begun_load _ _ _ _ _ c.in-Err.refused.ended c.in-Err.ensures.failure

pub returns-in-Err-refuse_files-clause-old_files : goal.returns-in-Err-refuse_files-clause-old_files
returns-in-Err-refuse_files-clause-old_files g c promised =
    recovering_old g.D.Disk.meaning _ _ (c.refuse_files.ensures.recovered c.args.disk (c.in-Ok.ensures.recovered promised)).moments

pub returns-in-Err-refuse_files-clause-refused_here : goal.returns-in-Err-refuse_files-clause-refused_here
returns-in-Err-refuse_files-clause-refused_here g c promised is = let closed = c.in-Ok.ensures.closed promised in absurd cc
