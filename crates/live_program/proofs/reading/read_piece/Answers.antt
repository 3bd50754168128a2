use Rattle.std.proofs.Common.{ap, length, subst, take}
use Rattle.std.specs.Io.BufRead.{FillKeeps}
use Rattle.std.proofs.BufReadLemmas.{Consumes_shown}
use Rattle.live_program.proofs.ReadingLaws.{piece_none}
use Rattle.live_program.proofs.reading.read_piece.Goals as goal

pub returns-in-Err : goal.returns-in-Err
returns-in-Err g c = record { piece = piece_none c.unshown.result _ _ _ _ c.unshown.ensures.open c.fill_buf.follows.holds-at-none.0 }

pub returns : goal.returns
returns g c =
    let rested = c.fill_buf.follows.lender-at-none in
    let filled = subst (FillKeeps (g.R.Read.remaining c.args.reader.now) (g.R.Read.remaining rested) (g.R.BufRead.consumable_len rested)) c.in-Ok.is c.fill_buf.follows.holds-at-none in
    let read = c.in_ok-read.ensures in
    let moved = Consumes_shown (g.R.Read.remaining c.args.reader.now) (g.R.Read.remaining rested) (g.R.Read.remaining c.consume.new.self) (g.R.BufRead.consumable_len rested) c.in-Ok.shown.now c.in_ok-read.read read.within
    c.in-Ok.ensures.front c.in-Ok.ensures.end filled.0 filled.1 c.consume.ensures.bytes in
    record {
      piece = λ text part. record {
        taken = take c.in_ok-read.read c.in-Ok.shown.now;
        takes = read.piece text part;
        gone = moved.0;
        input = λ is. moved.1 (ap length (read.input is));
      };
    }
