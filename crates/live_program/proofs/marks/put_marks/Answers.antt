use Rattle.std.proofs.Common.{◌∙◌, ℕ, List, subst, sym}
use Rattle.live_program.proofs.FailureLaws.{told_end_of}
use Rattle.live_program.proofs.MarksLaws.{are_marked, entries_more, entry_input, IsDone}
use Rattle.live_program.proofs.OtherDayLaws.{marks_other}
use Rattle.live_program.proofs.marks.put_marks.Goals as goal

pub returns-in_err-mark_entry-clause-refused : goal.returns-in_err-mark_entry-clause-refused
returns-in_err-mark_entry-clause-refused g c =
    let refused = c.in_err-mark_entry.ensures.refused in
    told_end_of _ _ _ c.from_residual-in_err-mark_entry.ensures.1
    (marks_other (g.Y.Beside.answers c.args.places.now) (g.S.Source.files c.args.source.now) c.args.options.now c.in-Ok.entries.items refused.0 c.in_err-mark_entry.field-0.0 c.in-Ok.ensures.said
    (entry_input c.args.options.now.setup.now c.in-Ok.entries.items c.deref-entry-items.result.now c.loop-entry.entry-index c.entry-item.result refused.0 c.deref-entry-items.ensures.value c.loop-entry-test.true
    c.entry-item.is refused.1) refused.2)

pub loop-entry-preserved : goal.loop-entry-preserved
loop-entry-preserved g c =
    let places = c.args.places.now in
    let m = g.Y.Disk.Disk.meaning in
    let out = c.args.options.now.out.now in
    let old = c.loop-entry.marks.log in
    record {
      among = c.in_ok-mark_entry.ensures.marked;
      named = subst (λ (log : List ℕ). g.Y.Places.names_log places out log) (sym c.mark_entry.ensures.log) c.loop-entry.invariant.named;
      own = subst (λ (log : List ℕ). IsDone m (g.Y.Beside.answers places) (g.Y.Beside.lies places) (g.Y.Places.opens places) out log c.args.options.now.setup.now) (sym c.mark_entry.ensures.log) c.loop-entry.invariant.own;
      before = entries_more m (g.Y.Beside.answers places) (g.Y.Beside.lies places) (g.Y.Places.opens places) out old c.mark_entry.new.marks.log c.deref-entry-items.result.now c.loop-entry.entry-index c.entry-item.result
          c.mark_entry.ensures.log c.loop-entry-test.true c.entry-item.is c.in_ok-mark_entry.ensures.put c.in_ok-mark_entry.ensures.own c.loop-entry.invariant.before;
      kept = c.mark_entry.ensures.kept ∙ c.loop-entry.invariant.kept;
    }

pub returns-clause-marked : goal.returns-clause-marked
returns-clause-marked g c =
    let places = c.args.places.now in
    let have = c.loop-entry.invariant in
    are_marked g.Y.Disk.Disk.meaning (g.Y.Beside.answers places) (g.Y.Beside.lies places) (g.Y.Places.opens places) (g.Y.Places.names_log places) (g.S.Source.files c.args.source.now) c.args.options.now c.loop-entry.marks.log
    c.in-Ok.entries.items c.deref-entry-items.result.now c.loop-entry.entry-index have.named c.in-Ok.ensures.said c.deref-entry-items.ensures.value c.loop-entry-test.false have.own have.before
