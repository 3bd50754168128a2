use Rattle.live_program.proofs.ReadingLaws.{line_read, none_read, part_more, part_none, rest_read}
use Rattle.live_program.proofs.reading.read_line.Goals as goal

pub pieces-init : goal.pieces-init
pieces-init g c = rw c.new.ensures.items (part_none (g.R.Read.remaining c.args.reader.now))

pub pieces-preserved : goal.pieces-preserved
pieces-preserved g c =
    let has = c.pieces.invariant in
    part_more _ (g.R.Read.remaining c.pieces.reader) _ _ _ _ _ c.in_ok-read_piece.field-0 c.in-Open.is has (c.in_ok-read_piece.ensures.piece has.text has.part)

pub returns-in-Line : goal.returns-in-Line
returns-in-Line g c =
    let has = c.pieces.invariant in
    record {
      text = line_read _ (g.R.Read.remaining c.pieces.reader) _ _ _ _ _ c.in_ok-read_piece.field-0 c.ended.result c.args.origin c.in-Line.is has (c.in_ok-read_piece.ensures.piece has.text has.part)
          c.ended.ensures.long c.ended.ensures.line;
    }

pub returns-in-Input : goal.returns-in-Input
returns-in-Input g c =
    let has = c.pieces.invariant in
    let none = c.is_empty.ensures.none c.if-is_empty.true in
    record {
      text = none_read _ (g.R.Read.remaining c.pieces.reader) _ _ _ _ _ c.in_ok-read_piece.field-0 c.args.origin c.in-Input.is has (c.in_ok-read_piece.ensures.piece has.text has.part) none.0 none.1;
    }

pub returns-in-Input-2 : goal.returns-in-Input-2
returns-in-Input-2 g c =
    let has = c.pieces.invariant in
    record {
      text = rest_read _ (g.R.Read.remaining c.pieces.reader) _ _ _ _ _ c.in_ok-read_piece.field-0 c.last_line.result c.args.origin c.in-Input-2.is has (c.in_ok-read_piece.ensures.piece has.text has.part)
          (c.is_empty.ensures.some c.if-is_empty.false) c.last_line.ensures.cut;
    }
