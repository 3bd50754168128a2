use Rattle.live_day.proofs.GroupLaws.{no_quit_cut, no_quit_long, no_quit_text, quits_text}
use Rattle.live_day.proofs.typing.is_quit_typed.Goals as goal

pub returns-in-Text-clause-no : goal.returns-in-Text-clause-no
returns-in-Text-clause-no c = no_quit_text c.args.typed.now _ c.as_slice.result.now c.is_quit.result c.in-Text.is c.as_slice.ensures.value c.is_quit.ensures.value

pub returns-in-Text-clause-yes : goal.returns-in-Text-clause-yes
returns-in-Text-clause-yes c = quits_text c.args.typed.now _ c.as_slice.result.now c.is_quit.result c.in-Text.is c.as_slice.ensures.value c.is_quit.ensures.value

pub returns-in-TooLong-clause-no : goal.returns-in-TooLong-clause-no
returns-in-TooLong-clause-no c same = no_quit_long c.args.typed.now c.in-TooLong.is

pub returns-in-Cut-clause-no : goal.returns-in-Cut-clause-no
returns-in-Cut-clause-no c same = no_quit_cut c.args.typed.now c.in-Cut.is
