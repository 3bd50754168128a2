use Rattle.std.proofs.Common.{◌≡◌, ◌++◌, rules}
use Rattle.std.specs.Cmp.{unsigned_Decides}
use Rattle.std.proofs.lemmas.Slice.Eq.{strip_suffix_is}
use Rattle.open_day.proofs.ClosedLaws.{after_count, front_of, is_closed}
use Rattle.open_day.proofs.closed.closed_count.Goals as goal

pub returns-in-Some-plain_number-clause-found : goal.returns-in-Some-plain_number-clause-found
returns-in-Some-plain_number-clause-found c =
    let rest = c.in-Some.rest.now in
    let digits = c.in-Some-strip_suffix.digits in
    let cuts = strip_suffix_is unsigned_Decides rest after_count c.strip_suffix.result c.strip_suffix.ensures.cases in
    let last : rest ≡ digits.now ++ after_count = front_of rest after_count c.strip_suffix.result digits cuts (search rules) in
    is_closed c.args.log.now rest digits.now c.in-Some-plain_number.count (search rules) last (search rules)
