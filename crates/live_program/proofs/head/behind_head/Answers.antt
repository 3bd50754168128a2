use Rattle.std.proofs.Common.{rules}
use Rattle.live_program.proofs.HeadLaws.{other_lines}
use Rattle.live_program.proofs.head.behind_head.Goals as goal

pub returns-in-Err-clause-fault : goal.returns-in-Err-clause-fault
returns-in-Err-clause-fault c =
    other_lines c.args.log.now c.in-Some.field-0.now c.args.read.now c.args.reindex c.head_failure.result (search rules) c.in-Some.ensures.found
    (c.head_failure.ensures.told c.args.log.now c.args.reindex c.in-Err.ensures.fault)
