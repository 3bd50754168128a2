use Rattle.std.proofs.Common.{map, ◌≡◌, ◌≢◌, ◌-◌, List, [], ◌∷◌, ◌++◌, sym, ap, ◌∙◌, arith}
use Rattle.catalogue_core.specs.declared.entry.Entry.{Entry}
use Rattle.catalogue_core.specs.Replay.{opened_as, state_of, entry}
use Rattle.catalogue_core.specs.Rooms.{seen}
use Rattle.catalogue_core.specs.Tables.{kept_table}
use Rattle.catalogue_core.specs.State.{State, station_at}
use Rattle.catalogue_core.specs.Step.{step}
use Rattle.catalogue_core.proofs.StepLaws.{refused_step}
use Rattle.catalogue_core.proofs.ReplayLaws.{is_stepped, carried_out, may_perform, kept_push}
use Rattle.catalogue_core.proofs.catalogue.Catalogue.perform.Goals as goal

pub invariant_of-self-2 : goal.invariant_of-self-2
invariant_of-self-2 c =
    let s = seen c.self.inside.state in
    let journal = c.self.inside.journal.items in
    let e = entry c.args.station c.in_ok-command_copy.command_copy c.in_ok-plan.plan.answer in
    let grown : c.write_entry.new.journal.items ≡ journal ++ e ∷ [] = c.write_entry.ensures.entries ∙ ap (λ (l : List Entry). l ++ e ∷ []) c.in_ok-reserve.ensures.items in
    let done : (seen c.apply.new.self, e.answer) ≡ step s e.station e.command = carried_out c.args.station c.in_ok-plan.plan c.in_ok-plan.ensures.stepped c.in_ok-command_copy.ensures.value c.in_ok-plan.ensures.same c.apply.ensures.value in
    let applied : seen c.apply.new.self ≡ (step s e.station e.command).0 = ap (λ r. r.0) done in
    let has = may_perform c.self.invariant c.self.view_is c.requires.counted c.requires.inside in
    let kept = kept_push (opened_as c.self.inside.stations (map kept_table c.self.inside.opened.items)) s journal e c.self.invariant has (ap (λ r. r.1) done) (omega arith) in
    rw (grown, applied) kept

pub returns-clause-refused : goal.returns-clause-refused
returns-clause-refused c = λ refusal answered.
    let done = carried_out c.args.station c.in_ok-plan.plan c.in_ok-plan.ensures.stepped c.in_ok-command_copy.ensures.value c.in_ok-plan.ensures.same c.apply.ensures.value in
    let has = may_perform c.self.invariant c.self.view_is c.requires.counted c.requires.inside in
    let refused = refused_step (seen c.self.inside.state) c.args.station c.in_ok-command_copy.command_copy refusal c.self.invariant.ok has (sym (ap (λ r. r.1) done) ∙ sym c.in_ok-answer.ensures.value ∙ answered) in
    sym (invariant_of-self-2 c).replayed ∙ ap (λ r. r.0) done ∙ refused ∙ c.self.invariant.replayed ∙ ap state_of c.self.view_is

pub returns-clause-others : goal.returns-clause-others
returns-clause-others c = λ other counted differs.
    let n : other - 1 ≢ c.args.station - 1 = λ same. differs (omega (arith, same, counted, c.requires.counted)) in
    let done = carried_out c.args.station c.in_ok-plan.plan c.in_ok-plan.ensures.stepped c.in_ok-command_copy.ensures.value c.in_ok-plan.ensures.same c.apply.ensures.value in
    let has = may_perform c.self.invariant c.self.view_is c.requires.counted c.requires.inside in
    let stepped = is_stepped (seen c.self.inside.state) c.args.station c.in_ok-command_copy.command_copy c.self.invariant.ok has in
    ap (λ (t : State). station_at t other) (sym (invariant_of-self-2 c).replayed ∙ ap (λ r. r.0) done)
    ∙ stepped.others (other - 1) n
    ∙ ap (λ (t : State). station_at t other) (c.self.invariant.replayed ∙ ap state_of c.self.view_is)
