use Rattle.std.proofs.Common.{◌≡◌, ◌∙◌, ◌∷◌, ◌++◌, ◌+◌, [], ap, length, arith, length-append}
use Rattle.std.specs.Option.{option_to_list}
use Rattle.rtrb.specs.Ring.{IsPair}
use Rattle.live_stations.proofs.PairLaws.{pair_length}
use Rattle.live_stations.proofs.MeetingLaws.{left_step, met_step, no_more, number_on}
use Rattle.live_stations.proofs.day.meet_all.Goals.{in_default-via-in-Some+in-Some+in-Some+in_default, in_default-via-in-Some+in-Some+in_default, in_default-via-in-Some+in_default, in_default-via-in_default}
use Rattle.live_stations.proofs.day.meet_all.Goals as goal

pub meeting-preserved : goal.meeting-preserved
meeting-preserved g c =
    let s = c.in-Some-Some-Some-Some in
    let room = c.meeting.room.items in
    let room' = c.push_reserved.new.self.items in
    let hs' = c.next.new.self.rest.items in
    let rs' = c.next-in-meeting.new.self.rest.items in
    let ts' = c.next-in-meeting-2.new.self.rest.items in
    let ps' = c.next-in-meeting-3.new.self.rest.items in
    let eh : c.meeting.hearings.rest.items ≡ s.hearing ∷ hs' = c.next.ensures.items ∙ ap (λ o. option_to_list o ++ hs') s.is-0 in
    let er : c.meeting.answers.rest.items ≡ s.ring ∷ rs' = c.next-in-meeting.ensures.items ∙ ap (λ o. option_to_list o ++ rs') s.is-1 in
    let et : c.meeting.typists.rest.items ≡ s.typist ∷ ts' = c.next-in-meeting-2.ensures.items ∙ ap (λ o. option_to_list o ++ ts') s.is-2 in
    let ep : c.meeting.printers.rest.items ≡ s.printer ∷ ps' = c.next-in-meeting-3.ensures.items ∙ ap (λ o. option_to_list o ++ ps') s.is-3 in
    let more = c.push_reserved.ensures.items in
    let met = met_step (1 + length room) c.meeting.hearings.rest.items hs' c.meeting.answers.rest.items rs' c.meeting.typists.rest.items ts' c.meeting.printers.rest.items ps' s.hearing s.ring s.typist s.printer eh er et ep
    c.meeting.invariant.met in
    record {
      met = number_on room room' c.meet.result hs' rs' ts' ps' more met.2;
      many = omega (arith, c.meeting.invariant.many, ap length more, length-append room (c.meet.result ∷ []), ap length eh);
      room = omega (arith, c.meeting.invariant.room, c.push_reserved.ensures.len, c.push_reserved.ensures.capacity, ap length eh);
      each = λ types reads items shown all_heard m.
          left_step g.K.Keyboard.typed g.W.Write.contents types reads items shown all_heard room room' c.meet.result c.meeting.hearings.rest.items hs' c.meeting.answers.rest.items rs' c.meeting.typists.rest.items ts'
          c.meeting.printers.rest.items ps' s.hearing s.ring s.typist s.printer eh er et ep more (c.meet.ensures.left types reads items shown all_heard) (c.meeting.invariant.each types reads items shown all_heard m);
    }

pub returns-clause-left : goal.returns-clause-left
returns-clause-left g c types reads items shown all_heard m = (c.meeting.invariant.each types reads items shown all_heard m).0

pub returns-clause-many : goal.returns-clause-many
returns-clause-many g c =
    let m = c.meeting.invariant.met in
    let hs = c.meeting.hearings.rest.items in
    let ts = c.meeting.typists.rest.items in
    let rs = c.meeting.answers.rest.items in
    let ps = c.meeting.printers.rest.items in
    let lines : length hs ≡ length ts = pair_length (λ k h t. IsPair t.lines h.lines) (1 + length c.meeting.room.items) hs ts m.lines in
    let answers : length rs ≡ length ps = pair_length (λ k a p. IsPair a p.answers) (1 + length c.meeting.room.items) rs ps m.answers in
    let both : length hs ≡ length rs = m.many in
    let all = c.meeting.invariant.many in
    elim c.in_default.branch [
      | in_default-via-in-Some+in-Some+in-Some+in_default w ↦
          let none = no_more c.next-in-meeting-3.result c.meeting.printers.rest.len w.in_default.is-3 c.next-in-meeting-3.ensures.variant in omega (arith, none, c.meeting.printers.rest.ok.0, both, answers, all)
      | in_default-via-in-Some+in-Some+in_default w ↦
          let none = no_more c.next-in-meeting-2.result c.meeting.typists.rest.len w.in_default.is-2 c.next-in-meeting-2.ensures.variant in omega (arith, none, c.meeting.typists.rest.ok.0, lines, all)
      | in_default-via-in-Some+in_default w ↦
          let none = no_more c.next-in-meeting.result c.meeting.answers.rest.len w.in_default.is-1 c.next-in-meeting.ensures.variant in omega (arith, none, c.meeting.answers.rest.ok.0, both, all)
      | in_default-via-in_default w ↦
          let none = no_more c.next.result c.meeting.hearings.rest.len w.in_default.is-0 c.next.ensures.variant in omega (arith, none, c.meeting.hearings.rest.ok.0, all)
    ]
