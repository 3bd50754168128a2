use Rattle.std.proofs.Common.{arith}
use Rattle.setup_check.proofs.ScriptTextLaws.{still_more, still_end, telling_more, telling_end}
use Rattle.setup_check.proofs.scripts.append_bad_lines.Goals as goal

pub loop-line-preserved : goal.loop-line-preserved
loop-line-preserved c = record {
  read = still_more _ _ _ _ _ _ c.loop-line.invariant.read c.in-Some.ensures.joined
      (telling_more c.args.text.now.items c.args.path.now c.loop-line.text.items c.append_bad_line.new.text.items c.loop-line.number c.in-Some.line.now c.in_ok-append_bad_line.ensures.ok);
  room = omega (arith, c.loop-line.invariant.room, c.in-Some.ensures.shorter);
}

pub returns : goal.returns
returns c = record { ok = λ all are. telling_end _ _ _ c.loop-line.number all (still_end _ _ _ c.loop-line.invariant.read c.in_default.ensures.none all are) }
