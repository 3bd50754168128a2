use Rattle.live_program.proofs.MarksLaws.{mark_listed}
use Rattle.live_program.proofs.marks.MarkJobWork.work.Goals as goal

pub returns-clause-done : goal.returns-clause-done
returns-clause-done g c =
    mark_listed c.in_ok-name.name c.args.self.now.log.now _ _ c.in_ok-name.ensures.value c.in_ok-write_file.ensures.wrote c.in_ok-write_file.ensures.bytes
