use Rattle.std.proofs.Common.{◌≡◌, ℕ, true, false}
use Rattle.station_lines.specs.JournalLines.{is_plain_number}
use Rattle.station_lines.proofs.JournalLaws.{not_plain, not_utf8, parsed, not_parsed}
use Rattle.station_lines.proofs.journal_lines.plain_number.Goals as goal

pub returns-then-not-is_plain-clause-none : goal.returns-then-not-is_plain-clause-none
returns-then-not-is_plain-clause-none c =
    let h : is_plain_number c.args.text.now ≡ false = cc in
    not_plain c.args.text.now h

pub returns-in_default-clause-none : goal.returns-in_default-clause-none
returns-in_default-clause-none c = not_utf8 c.args.text.now c.in_default.ensures.cases.0

pub returns-in-Ok-parse-clause-found : goal.returns-in-Ok-parse-clause-found
returns-in-Ok-parse-clause-found c =
    let h : is_plain_number c.args.text.now ≡ true = cc in
    parsed ℕ c.args.text.now c.in-Ok-parse.number h (rw c.in-Ok.ensures.cases.0 at c.in-Ok-parse.ensures.value.0)

pub returns-in-Err-clause-none : goal.returns-in-Err-clause-none
returns-in-Err-clause-none c = not_parsed {E = ℕ} c.args.text.now 0 (rw c.in-Ok.ensures.cases.0 at c.in-Err.ensures.value.0)
