use Rattle.std.proofs.Common.{◌≡◌, subst, rules}
use mathlib.Core.List.{IsPrefix}
use Rattle.shared_catalogue.specs.Seats.{Seated}
use Rattle.office_run.proofs.RunLaws.{told_later, left_answered, on_err}
use Rattle.office_run.proofs.session.Session.run_command.Goals as goal

pub returns-clause-shown : goal.returns-clause-shown
returns-clause-shown g c =
    let old : c.self.inside.seat ≡ c.args.self.now.seat = search rules in
    let new : c.perform.new.seat ≡ c.push_answer.new.self.seat = search rules in
    let later : IsPrefix c.self.inside.seat.rows c.perform.new.seat.rows = told_later _ _ _ _ c.in_ok-answer.ensures.told in (
      c.in_ok-answer.answer,
      record {
        shown = tt;
        later =
            subst (λ (z : Seated). IsPrefix c.args.self.now.seat.rows z.rows) new
            (subst (λ (z : Seated). IsPrefix z.rows c.perform.new.seat.rows) old later);
        station = search rules;
        share = search rules;
        receipts = search rules;
        answers = search rules;
      },
    )

pub returns-in_err-push_answer-clause-left : goal.returns-in_err-push_answer-clause-left
returns-in_err-push_answer-clause-left g c = on_err _ _ (left_answered c.args.self.now c.push_answer.new.self c.args.command c.in_ok-answer.answer (search rules) (search rules))
