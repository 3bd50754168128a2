use Rattle.std.proofs.Common.{◌∙◌, ap}
use Rattle.files_in_place.proofs.Uncommitted.{free_temporary, run_none, run_step, staged_left}
use Rattle.files_in_place.proofs.stage.begin_file.Goals as goal

pub create-requires : goal.create-requires
create-requires g c = record {
  free = λ promised.
      let is = c.requires.free promised in
      ap (g.D.Disk.meaning.seen c.args.disk.now) is.1 ∙ (c.requires.staged promised).no_other is.0 is.2;
}

pub returns-in_err-create-clause-run : goal.returns-in_err-create-clause-run
returns-in_err-create-clause-run g c promised =
    let m = g.D.Disk.meaning in
    let left = staged_left m _ _ _ (c.requires.staged promised) in
    run_step m _ _ _ _ (run_none m _ left) (free_temporary c.args.names.now c.args.lies.now (c.requires.free promised)) c.create.ensures.changes

pub returns-clause-run : goal.returns-clause-run
returns-clause-run g c promised =
    let m = g.D.Disk.meaning in
    let left = staged_left m _ _ _ (c.requires.staged promised) in
    run_step m _ _ _ _ (run_none m _ left) (free_temporary c.args.names.now c.args.lies.now (c.requires.free promised)) c.create.ensures.changes
