use Rattle.std.specs.Prelude.{OnOk}
use Rattle.std.proofs.Common.{◌≤◌, subst}
use Rattle.ndx_index.specs.declared.read.view.PageView.{PageView}
use Rattle.ndx_index.specs.Walks.{node_seen}
use Rattle.ndx_index.proofs.read.walk.push_under.Goals as goal

pub returns-in-Inner-clause-shallow : goal.returns-in-Inner-clause-shallow
returns-in-Inner-clause-shallow c = λ most le h. c.push_children.ensures.shallow most (subst (λ (view : PageView). OnOk (node_seen view) (c.args.depth ≤ most)) c.in-Inner.is le) h
