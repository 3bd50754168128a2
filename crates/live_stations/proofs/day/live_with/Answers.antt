use Rattle.std.proofs.Common.{◌≡◌, ◌∙◌, ℕ, length, sym, subst, arith}
use Rattle.live_stations.specs.Hearings.{IsHeard}
use Rattle.live_stations.specs.Done.{AreNamed}
use Rattle.live_stations.specs.Stations.{HaveLeft}
use Rattle.live_stations.proofs.OwnLaws.{own_of_left}
use Rattle.live_stations.proofs.MeetingLaws.{all_meet, all_met}
use Rattle.live_stations.proofs.PairLaws.{pair_length}
use Rattle.live_stations.proofs.day.live_with.Goals as goal

pub meet_all-requires-clause-room : goal.meet_all-requires-clause-room
meet_all-requires-clause-room g c =
    let s = c.in_ok-left.ensures.left in
    let many : length c.args.ends.hearings.items ≡ length c.in_ok-left.left.hearings.items =
    pair_length (λ k f h. IsHeard s.items k f h) 1 c.args.ends.hearings.items c.in_ok-left.left.hearings.items s.heard in
    omega (arith, many, c.len.ensures, c.in_ok-reserve.ensures.ok)

pub meet_all-requires-clause-met : goal.meet_all-requires-clause-met
meet_all-requires-clause-met g c =
    let s = c.in_ok-left.ensures.left in
    let left = c.in_ok-left.left in
    let ends = c.args.ends in
    all_met g.T.Keyboard.Keyboard.typed g.T.Screen.Write.contents (g.T.Terminals.types c.args.terminals.now) (g.T.Terminals.reads c.args.terminals.now) s.items s.shown left.all_heard ends.hearings.items left.hearings.items ends.answers.items left.answers.items ends.stations.items left.typists.items
    left.printers.items c.requires.rings s.heard s.handed s.typed_there s.printed_there

pub returns : goal.returns
returns g c =
    let s = c.in_ok-left.ensures.left in
    let left = c.in_ok-left.left in
    let ends = c.args.ends in
    let same : length ends.hearings.items ≡ length left.hearings.items = pair_length (λ k f h. IsHeard s.items k f h) 1 ends.hearings.items left.hearings.items s.heard in
    let each : HaveLeft g.T.Keyboard.Keyboard.typed g.T.Screen.Write.contents (g.T.Terminals.types c.args.terminals.now) (g.T.Terminals.reads c.args.terminals.now) s.items s.shown left.all_heard c.meet_all.result.items =
    c.meet_all.ensures.left (g.T.Terminals.types c.args.terminals.now) (g.T.Terminals.reads c.args.terminals.now) s.items s.shown left.all_heard
    (all_meet g.T.Keyboard.Keyboard.typed g.T.Screen.Write.contents (g.T.Terminals.types c.args.terminals.now) (g.T.Terminals.reads c.args.terminals.now) s.items s.shown left.all_heard ends.hearings.items left.hearings.items ends.answers.items left.answers.items ends.stations.items left.typists.items
    left.printers.items c.requires.rings s.heard s.handed s.typed_there s.printed_there s.over) in
    let many : length c.meet_all.result.items ≡ length ends.hearings.items = c.meet_all.ensures.many ∙ sym same in
    let are_named = subst (λ (k : ℕ). AreNamed k s.items) (sym same) s.are_named in
    record {
      day = record {
        items = s.items;
        shown = s.shown;
        unshown = s.unshown;
        lived = s.lived;
        why = s.why;
        each = each;
        many = many;
        are_named = are_named;
        own = λ some.
            own_of_left g.T.Keyboard.Keyboard.typed g.T.Screen.Write.contents (g.T.Terminals.types c.args.terminals.now) (g.T.Terminals.reads c.args.terminals.now) s.items s.shown left.all_heard (length ends.hearings.items) c.meet_all.result.items are_named some each many;
      };
      told = c.in_ok-left.ensures.told;
      fault = tt;
    }
