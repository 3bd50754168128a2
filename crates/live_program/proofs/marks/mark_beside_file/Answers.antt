use Rattle.live_program.proofs.MarksLaws.{marked_folder}
use Rattle.live_program.proofs.marks.mark_beside_file.Goals as goal

pub returns-in-Ok-clause-marked : goal.returns-in-Ok-clause-marked
returns-in-Ok-clause-marked g c =
    let beside = c.args.others.now.beside.now in
    marked_folder g.Y.Disk.Disk.meaning (g.Y.Beside.answers beside) (g.Y.Beside.lies beside) (g.Y.Places.opens beside) c.args.others.now.out.now c.args.marks.now.log c.as_slice.result.now c.args.marks.now.folders.items
    c.add_folder.new.folders.items c.folder_of-folder.result.now c.args.path.now c.in-Ok.ensures.added c.folder_of-folder.ensures.value c.as_slice.ensures.value c.requires.marked c.in_ok-put_mark.ensures.put
