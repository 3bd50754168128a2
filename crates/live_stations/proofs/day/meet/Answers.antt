use Rattle.std.proofs.Common.{◌≡◌, ◌∙◌, ◌++◌, true, ℕ, List, refl, sym, ap}
use Rattle.rtrb.specs.Ring.{known_items}
use Rattle.live_stations.specs.declared.heard.Heard.{Heard}
use Rattle.live_stations.proofs.MeetingLaws.{left_of, none_known}
use Rattle.live_stations.proofs.day.meet.Goals as goal

pub returns : goal.returns
returns g c =
    let lines_known : List Heard = known_items c.slots_beside.new.self in
    let answers_known : List (List ℕ) = known_items c.slots_beside-left.new.self in
    record {
      left = λ types reads items shown all_heard station heard handed over.
          left_of g.K.Keyboard.typed g.W.Write.contents types reads items shown all_heard station c.args.hearing c.args.answers c.args.typist c.args.printer _ lines_known answers_known heard handed over
          (ap (λ (l : List Heard). l ++ lines_known) (sym c.slots_beside.ensures.looked.1) ∙ c.slots_beside.ensures.fifo ∙ c.slots_beside.ensures.producer.1)
          (ap (λ (l : List (List ℕ)). l ++ answers_known) (sym c.slots_beside-left.ensures.looked.1) ∙ c.slots_beside-left.ensures.fifo ∙ c.slots_beside-left.ensures.producer.1) refl refl refl
          (λ (e : c.are_printed.result ≡ true).
          let both = c.are_printed.ensures.both e in
          (both.0, none_known answers_known c.slots_beside-left.result both.1 c.slots_beside-left.ensures.value));
    }
