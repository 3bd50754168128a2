use Rattle.std.proofs.Common.{◌≡◌, false, sym, ap, subst, ◌∙◌, rules}
use mathlib.Core.List.{IsPrefix}
use Rattle.crossbeam_utils.specs.Seq.{cell_view}
use Rattle.shared_catalogue.specs.declared.board.View.{View}
use Rattle.shared_catalogue.specs.Seats.{Seated, seated}
use Rattle.shared_catalogue.proofs.KnownLaws.{learn}
use Rattle.shared_catalogue.proofs.Moves.{copies, tells}
use Rattle.shared_catalogue.proofs.seat.Seat.learn.Goals as goal

pub split_pass-known-requires : goal.split_pass-known-requires
split_pass-known-requires g c = (search rules, (search rules, (c.self.invariant.of_board ∙ sym c.requires.board.0, copies _ _)))

pub split_pass-copy-requires : goal.split_pass-copy-requires
split_pass-copy-requires g c =
    let b = c.requires.board in
    (search rules, (search rules, (c.compare_known.ensures.pass.0 ∙ (b.1 ∙ sym b.0), copies _ _)))

pub join_pass-requires : goal.join_pass-requires
join_pass-requires g c =
    let i = c.self.invariant in
    let b = c.requires.board in
    let kept = c.split_pass-known.ensures.kept in
    let given = c.split_pass-copy.ensures.given in
    let reads : (cell_view c.split_pass-known.new.pass).writes ≡ false = ap (λ (v : View). v.writes) kept.1 ∙ i.reads in (
      search rules,
      (
        search rules,
        (
          (kept.0.0 ∙ (i.of_board ∙ sym b.0), given.0 ∙ (c.compare_known.ensures.pass.0 ∙ (b.1 ∙ sym (kept.0.0 ∙ i.of_board))), given.2),
          tells _ _ _ _ reads,
        ),
      ),
    )

pub invariant_of-self : goal.invariant_of-self
invariant_of-self g c =
    let i = c.self.invariant in
    let station = c.self.inside.station in
    let share = c.self.inside.share.amount in
    let seat = cell_view c.self.inside.pass in
    let writer = cell_view c.args.pass.now in
    let done = learn seat writer (cell_view c.split_pass-known.new.pass) (cell_view c.split_pass-known.result) (cell_view c.compare_known.new.pass) (cell_view c.split_pass-copy.new.pass)
    (cell_view c.split_pass-copy.result) (cell_view c.join_pass.new.pass) station share i.own i.receipts c.split_pass-known.ensures.kept.1 c.split_pass-known.ensures.given.1
    c.compare_known.ensures.part c.compare_known.ensures.pass.1 c.split_pass-copy.ensures.kept.1 c.split_pass-copy.ensures.given.1 c.join_pass.ensures.1 in
    record {
      part = i.part;
      counted = i.counted;
      inside = i.inside;
      of_board = c.join_pass.ensures.0.0 ∙ (c.split_pass-known.ensures.kept.0.0 ∙ i.of_board);
      reads = done.writes ∙ i.reads;
      own = done.own;
      receipts = done.among;
    }

pub returns : goal.returns
returns g c =
    let i = c.self.invariant in
    let b = c.requires.board in
    let station = c.self.inside.station in
    let share = c.self.inside.share.amount in
    let seat = cell_view c.self.inside.pass in
    let writer = cell_view c.args.pass.now in
    let done = learn seat writer (cell_view c.split_pass-known.new.pass) (cell_view c.split_pass-known.result) (cell_view c.compare_known.new.pass) (cell_view c.split_pass-copy.new.pass)
    (cell_view c.split_pass-copy.result) (cell_view c.join_pass.new.pass) station share i.own i.receipts c.split_pass-known.ensures.kept.1 c.split_pass-known.ensures.given.1
    c.compare_known.ensures.part c.compare_known.ensures.pass.1 c.split_pass-copy.ensures.kept.1 c.split_pass-copy.ensures.given.1 c.join_pass.ensures.1 in
    record {
      pass = (c.split_pass-copy.ensures.kept.0.0 ∙ (c.compare_known.ensures.pass.0 ∙ b.1), done.writer_is);
      later = subst (λ (z : Seated). IsPrefix z.rows writer.known.rows) c.self.view_is done.part.0;
      seat =
          (λ k. seated station share (done.rows k) (done.receipts k) (done.loads k))
          ∙ ap (λ (z : Seated). seated z.station z.share writer.known.rows z.receipts z.loads) c.self.view_is;
    }
