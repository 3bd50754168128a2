use Rattle.std.proofs.Common.{◌≡◌, ◌∙◌, ℕ, List, length, map, subst, sym, arith}
use Rattle.live_stations.specs.Handed.{AnswerRing, AreHandedFrom}
use Rattle.live_stations.specs.Hearings.{AreHeardFrom}
use Rattle.live_stations.specs.Stations.{answer_end, line_end, printing_of, typing_of}
use Rattle.live_stations.specs.Tellings.{IsThreadFault}
use Rattle.live_stations.specs.declared.hearing.Hearing.{Hearing}
use Rattle.live_stations.proofs.MeetingLaws.{as_many, lived_by, printed_for, rings_of, rings_unhanded, rings_unheard, rings_unused, same_length, typed_for}
use Rattle.live_stations.proofs.TellingLaws.{end_told}
use Rattle.live_stations.proofs.day.live_in_scope.Goals as goal

pub start_threads-requires-clause-unused : goal.start_threads-requires-clause-unused
start_threads-requires-clause-unused g c κs within = rings_unused c.args.ends.hearings.items c.args.ends.answers.items c.args.ends.stations.items c.requires.rings

pub start_threads-requires-clause-stations : goal.start_threads-requires-clause-stations
start_threads-requires-clause-stations g c κs within = rings_of c.args.ends.hearings.items c.args.ends.answers.items c.args.ends.stations.items c.requires.rings

pub new-keyboard-requires-clause-unheard : goal.new-keyboard-requires-clause-unheard
new-keyboard-requires-clause-unheard g c = rings_unheard c.args.ends.hearings.items c.args.ends.answers.items c.args.ends.stations.items c.requires.rings

pub new-screen-requires-clause-unsent : goal.new-screen-requires-clause-unsent
new-screen-requires-clause-unsent g c = rings_unhanded c.args.ends.hearings.items c.args.ends.answers.items c.args.ends.stations.items c.requires.rings

pub join_typists-requires-clause-room : goal.join_typists-requires-clause-room
join_typists-requires-clause-room g c =
    let many : length c.in-Ok.threads.typists.items ≡ length c.args.ends.stations.items = same_length (λ h. typing_of h.promise) (line_end c.args.terminals.now) _ _ c.in-Ok.ensures.typists in
    omega (arith, many, c.len.ensures, c.in_ok-reserve.ensures.ok)

pub join_printers-requires-clause-room : goal.join_printers-requires-clause-room
join_printers-requires-clause-room g c =
    let many : length c.in-Ok.threads.printers.items ≡ length c.args.ends.stations.items = same_length (λ h. printing_of h.promise) (answer_end c.args.terminals.now) _ _ c.in-Ok.ensures.printers in
    omega (arith, many, c.len-2.ensures, c.in_ok-reserve-2.ensures.ok)

pub returns-in-Err-clause-fault : goal.returns-in-Err-clause-fault
returns-in-Err-clause-fault g c =
    subst (λ (k : ℕ). IsThreadFault k c.in-Err.fault) (sym (as_many c.args.ends.hearings.items c.args.ends.answers.items c.args.ends.stations.items c.requires.rings)) c.in-Err.ensures.fault

pub returns : goal.returns
returns g c =
    let typed = g.T.Keyboard.Keyboard.typed in
    let contents = g.T.Screen.Write.contents in
    let terminals = c.args.terminals.now in
    let keyboard = c.run_program-ended.new.keyboard in
    let screen = c.run_program-ended.new.screen in
    record {
      left = record {
        items = keyboard.items;
        shown = screen.shown;
        unshown = screen.failed;
        lived =
            lived_by g.Y.Disk.Disk.meaning (g.Y.Places.opens c.args.asked.places.now) (g.S.Source.files c.args.asked.source) (map g.W.AsStr.text c.args.asked.words.now) c.has_ended.result keyboard.ended keyboard.items
            c.new-keyboard.result.items screen.shown c.new-screen.result.shown c.run_program-ended.result c.run_program-ended.ensures.lived c.run_program-ended.ensures.unlived c.new-keyboard.ensures.unread
            c.new-screen.ensures.unshown c.has_ended.ensures.value;
        why = c.run_program-ended.ensures.fault;
        heard = subst (λ (l : List Hearing). AreHeardFrom keyboard.items 1 l c.into_hearings.result.items) (sym c.requires.hearings) c.into_hearings.ensures.heard;
        over = λ e. c.into_hearings.ensures.over (sym c.has_ended.ensures.value ∙ e);
        are_named = c.into_hearings.ensures.are_named;
        handed = subst (λ (l : List AnswerRing). AreHandedFrom screen.shown 1 l c.into_rings.result.items) (sym c.requires.answers) c.into_rings.ensures.rings;
        typed_there =
            typed_for typed g.T.Terminals.types terminals c.args.ends.stations.items _ c.join_typists.result.items c.in-Ok.ensures.typists c.join_typists.ensures.typed;
        printed_there =
            printed_for contents g.T.Terminals.reads terminals c.args.ends.stations.items _ c.join_printers.result.items c.in-Ok.ensures.printers c.join_printers.ensures.printed;
      };
      told =
          end_told (g.S.Source.files c.args.asked.source) (map g.W.AsStr.text c.args.asked.words.now) g.O.Write.contents g.E.Write.contents c.args.asked.out c.tell-told.new.out c.args.asked.err
          c.run_program-ended.new.err c.tell-told.new.err c.run_program-ended.result c.tell-told.result c.run_program-ended.ensures.said c.tell-told.ensures.done c.tell-told.ensures.failed
          c.tell-told.ensures.text c.tell-told.ensures.line c.tell-told.ensures.unprinted;
      fault = tt;
    }
