use Rattle.std.proofs.Common.{◌≡◌, ◌∙◌, ◌++◌, ◌∷◌, [], List, Some, None, ap, refl, subst, sym}
use Rattle.std.specs.List.{AllByRecursion}
use Rattle.live_day.specs.declared.waiting.WaitingAnswer.{WaitingAnswer}
use Rattle.live_day.specs.Sessions.{answer_told, one_told}
use Rattle.live_day.specs.Waiting.{IsWaiting}
use Rattle.live_day.proofs.WaitingLaws.{all_wait_more, all_wait_on, waits_none, waits_now, waits_one}
use Rattle.live_day.proofs.group.perform_waiting.Goals as goal

pub returns-in-Ok-Some-clause-answered : goal.returns-in-Ok-Some-clause-answered
returns-in-Ok-Some-clause-answered g c ok =
    let answered = rw c.in-Ok-Some.field-0-is at c.in-Ok-Some.ensures.answered in
    let w : WaitingAnswer = record { count = c.entry_count.result; station = c.args.station; line = c.in-Ok-Some.line } in
    let pushed : c.push_reserved.new.self.items ≡ c.args.answers.now.items ++ w ∷ [] =
    c.push_reserved.ensures.items ∙ ap (λ (l : List WaitingAnswer). l ++ w ∷ []) c.reserve.ensures.items in
    (one_told c.args.station c.perform_typed.new.self.history c.in-Ok-Some.line, waits_one c.args.answers.now.items _ w c.perform_typed.new.self.history c.entry_count.ensures.value pushed, record { whole = c.is_cut.ensures.no c.if-is_cut.false; answer = Some c.in-Ok-Some.line; by_meaning = answered; told_is = refl })

pub returns-in-Ok-Some-clause-waiting : goal.returns-in-Ok-Some-clause-waiting
returns-in-Ok-Some-clause-waiting g c =
    let told = rw c.in-Ok-Some.field-0-is at c.in-Ok-Some.ensures.told in
    let w : WaitingAnswer = record { count = c.entry_count.result; station = c.args.station; line = c.in-Ok-Some.line } in
    let pushed : c.push_reserved.new.self.items ≡ c.args.answers.now.items ++ w ∷ [] =
    c.push_reserved.ensures.items ∙ ap (λ (l : List WaitingAnswer). l ++ w ∷ []) c.reserve.ensures.items in
    all_wait_more c.args.day.now.history c.perform_typed.new.self.history c.perform_typed.ensures.since.history c.args.answers.now.items _ w pushed c.requires.waiting
    (waits_now c.perform_typed.new.self.history w c.entry_count.ensures.value told)

pub returns-in-Ok-None-clause-answered : goal.returns-in-Ok-None-clause-answered
returns-in-Ok-None-clause-answered g c ok =
    let answered = rw c.in-Ok-None.field-0-is at c.in-Ok-None.ensures.answered in
    ([], waits_none c.args.answers.now.items _ c.reserve.ensures.items, record { whole = c.is_cut.ensures.no c.if-is_cut.false; answer = None; by_meaning = answered; told_is = refl })

pub returns-in-Ok-None-clause-waiting : goal.returns-in-Ok-None-clause-waiting
returns-in-Ok-None-clause-waiting g c =
    subst (λ (l : List WaitingAnswer). AllByRecursion (IsWaiting c.perform_typed.new.self.history) l) (sym c.reserve.ensures.items)
    (all_wait_on c.args.day.now.history c.perform_typed.new.self.history c.perform_typed.ensures.since.history c.args.answers.now.items c.requires.waiting)

pub returns-in-Err-Unanswered-clause-performed : goal.returns-in-Err-Unanswered-clause-performed
returns-in-Err-Unanswered-clause-performed g c =
    let by = (rw c.in-Err-Unanswered.field-0-is at c.in-Err-Unanswered.ensures.performed) (λ never. never) in
    (answer_told c.args.station c.perform_typed.new.self.history by.0, record { whole = c.is_cut.ensures.no c.if-is_cut.false; answer = by.0; by_meaning = by.1; told_is = refl })
