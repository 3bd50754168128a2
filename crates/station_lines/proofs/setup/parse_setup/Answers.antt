use Rattle.std.proofs.Common.{◌≡◌, ◌+◌, arith, refl}
use Rattle.station_lines.proofs.SetupLaws.TextLaws.{read_more, read_bad, read_next, read_whole, tables_first}
use Rattle.station_lines.proofs.setup.parse_setup.Goals as goal

pub returns-then-not-branch-clause-bad : goal.returns-then-not-branch-clause-bad
returns-then-not-branch-clause-bad c number e =
    let same : number ≡ c.loop-line.number + 1 = grind (arith, e) in
    read_bad _ _ _ _ _ _ c.loop-line.invariant.read c.in-Some.ensures.joined (c.in_ok-add_line.ensures.bad (rw c.if-not-branch.true refl)) number same

pub returns-in_err-add_line-clause-early : goal.returns-in_err-add_line-clause-early
returns-in_err-add_line-clause-early c e =
    read_next _ _ _ _ _ _ c.loop-line.invariant.read c.in-Some.ensures.joined c.in_err-add_line.ensures.early

pub loop-line-preserved : goal.loop-line-preserved
loop-line-preserved c = record {
  read = read_more _ _ _ _ _ _ _ c.loop-line.invariant.read c.in-Some.ensures.joined (c.in_ok-add_line.ensures.added (rw c.if-not-branch.false refl));
  tables = c.in_ok-add_line.ensures.tables (rw c.if-not-branch.false refl);
  counted = omega (arith, c.loop-line.invariant.counted, c.in-Some.ensures.shorter);
}

pub returns-clause-read : goal.returns-clause-read
returns-clause-read c = read_whole _ _ _ _ c.loop-line.invariant.read c.in_default.ensures.none

pub returns-clause-tables_first : goal.returns-clause-tables_first
returns-clause-tables_first c = tables_first _ _ (read_whole _ _ _ _ c.loop-line.invariant.read c.in_default.ensures.none)
