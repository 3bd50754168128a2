use Rattle.std.proofs.Common.{arith, ap, ◌≤◌, ◌≡◌, length, IfSome}
use Rattle.folders.proofs.ReadingLaws.{whole_read, where_it_fits}
use Rattle.folders.proofs.transfer.read_whole.Goals as goal

pub returns-clause-whole : goal.returns-clause-whole
returns-clause-whole g c =
    where_it_fits (λ bytes. IfSome (g.R.Read.remaining c.args.reader) (λ all. bytes.items ≡ all)) _ c.read_to_end.new.buf _ _ _ c.up_to.ensures.whole c.up_to.ensures.long
    (λ fits. let short : length c.read_to_end.new.buf.items ≤ c.args.limit = omega arith in
    whole_read _ _ c.args.limit _ _ _ (ap g.R.Read.remaining c.take.ensures.inner) c.take.ensures.limit c.in_ok-bytes.ensures.empty c.in_ok-read_to_end.ensures.bytes short)
