use Rattle.std.proofs.Common.{◌≡◌, ap, inl, inr, Err}
use Rattle.tool_program.proofs.RunLaws.{not_read_unread}
use Rattle.tool_program.proofs.running.run_words.Goals as goal

pub returns-in-Ok-clause-early : goal.returns-in-Ok-clause-early
returns-in-Ok-clause-early g c = inr (c.in_ok-asked.asked, c.in_ok-asked.ensures.asked, λ why h. c.in-Ok.ensures.early why h)

pub returns-in-Err-clause-early : goal.returns-in-Err-clause-early
returns-in-Err-clause-early g c = inr (c.in_ok-asked.asked, c.in_ok-asked.ensures.asked, λ why h. c.in-Err.ensures.early why h)

pub returns-in-Err-clause-unread_folder : goal.returns-in-Err-clause-unread_folder
returns-in-Err-clause-unread_folder g c told says is =
    let same : c.in-Err.fault ≡ told = cc in
    (c.in_ok-asked.asked, c.in_ok-asked.ensures.asked, c.in-Err.ensures.unread_folder told says (ap Err same))
