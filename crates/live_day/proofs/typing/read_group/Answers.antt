use Rattle.std.proofs.Common.{◌∙◌, ◌∷◌, [], Some, ap, arith, length, length-append, refl}
use Rattle.live_day.specs.declared.keyboard.TypingFault.TheVariants.{NoMemory}
use Rattle.live_day.specs.declared.typing.Then.{Then}
use Rattle.live_day.proofs.GroupLaws.{group_ends, group_goes_on, read_none, read_one, still_no_quit}
use Rattle.live_day.proofs.StoppedLaws.{failed_group}
use Rattle.live_day.proofs.typing.read_group.Goals as goal

pub reading-init : goal.reading-init
reading-init g c = record {
  room = omega (arith, c.in-Ok.ensures.ok);
  some = omega arith;
  counted = omega (arith, ap length (c.reserve.ensures.items ∙ c.new-lines.ensures.items));
  few = omega (arith, ap length (c.reserve.ensures.items ∙ c.new-lines.ensures.items));
  read = read_none (g.K.Keyboard.text_left c.args.keyboard.now) (g.K.Keyboard.typed c.args.keyboard.now) c.reserve.new.self.items (c.reserve.ensures.items ∙ c.new-lines.ensures.items);
}

pub returns-in-Some-clause-read : goal.returns-in-Some-clause-read
returns-in-Some-clause-read g c =
    let has = c.reading.invariant.read in
    let end = c.in-Some.ensures.end in
    group_ends (g.K.Keyboard.has_ended c.read_next.new.keyboard) (g.K.Keyboard.text_left c.args.keyboard.now) (g.K.Keyboard.text_left c.reading.keyboard) (g.K.Keyboard.text_left c.read_next.new.keyboard)
    (g.K.Keyboard.typed c.args.keyboard.now) (g.K.Keyboard.typed c.reading.keyboard) (g.K.Keyboard.typed c.read_next.new.keyboard) c.reading.lines.items c.read_next.new.lines.items c.in-Some.then end.0 has.typed has.read end.1

pub returns-in-Some-clause-no_quit : goal.returns-in-Some-clause-no_quit
returns-in-Some-clause-no_quit g c = still_no_quit c.reading.lines.items c.read_next.new.lines.items c.in-Some.ensures.end.0 c.reading.invariant.read.no_quit

pub returns-then-not-has_line-clause-read : goal.returns-then-not-has_line-clause-read
returns-then-not-has_line-clause-read g c =
    let one = c.read_next.ensures.line c.in_default-read_next.is in
    let has = read_one (g.K.Keyboard.text_left c.args.keyboard.now) (g.K.Keyboard.text_left c.reading.keyboard) (g.K.Keyboard.text_left c.read_next.new.keyboard)
    (g.K.Keyboard.typed c.args.keyboard.now) (g.K.Keyboard.typed c.reading.keyboard) (g.K.Keyboard.typed c.read_next.new.keyboard)
    c.reading.lines.items c.read_next.new.lines.items one.0 c.reading.invariant.read (one.1) one.2 one.3 one.4 in
    group_goes_on (g.K.Keyboard.has_ended c.read_next.new.keyboard) (g.K.Keyboard.text_left c.args.keyboard.now) (g.K.Keyboard.text_left c.read_next.new.keyboard)
    (g.K.Keyboard.typed c.args.keyboard.now) (g.K.Keyboard.typed c.read_next.new.keyboard) c.read_next.new.lines.items c.unended.result.lines.items c.unended.result.then (c.unended.ensures.lines) c.unended.ensures.then has

pub returns-then-not-has_line-clause-no_quit : goal.returns-then-not-has_line-clause-no_quit
returns-then-not-has_line-clause-no_quit g c =
    let one = c.read_next.ensures.line c.in_default-read_next.is in
    let has = read_one (g.K.Keyboard.text_left c.args.keyboard.now) (g.K.Keyboard.text_left c.reading.keyboard) (g.K.Keyboard.text_left c.read_next.new.keyboard)
    (g.K.Keyboard.typed c.args.keyboard.now) (g.K.Keyboard.typed c.reading.keyboard) (g.K.Keyboard.typed c.read_next.new.keyboard)
    c.reading.lines.items c.read_next.new.lines.items one.0 c.reading.invariant.read (one.1) one.2 one.3 one.4 in
    still_no_quit c.read_next.new.lines.items c.unended.result.lines.items c.unended.ensures.lines has.no_quit

pub returns-in_default-reserve-clause-no_quit : goal.returns-in_default-reserve-clause-no_quit
returns-in_default-reserve-clause-no_quit g c =
    let one = c.read_next.ensures.line c.in_default-read_next.is in
    let has = read_one (g.K.Keyboard.text_left c.args.keyboard.now) (g.K.Keyboard.text_left c.reading.keyboard) (g.K.Keyboard.text_left c.read_next.new.keyboard)
    (g.K.Keyboard.typed c.args.keyboard.now) (g.K.Keyboard.typed c.reading.keyboard) (g.K.Keyboard.typed c.read_next.new.keyboard)
    c.reading.lines.items c.read_next.new.lines.items one.0 c.reading.invariant.read (one.1) one.2 one.3 one.4 in
    still_no_quit c.read_next.new.lines.items c.unended-in_default-reserve.result.lines.items (c.unended-in_default-reserve.ensures.lines ∙ c.reserve-in-reading.ensures.items) has.no_quit

pub returns-in_default-reserve-clause-read : goal.returns-in_default-reserve-clause-read
returns-in_default-reserve-clause-read g c =
    let one = c.read_next.ensures.line c.in_default-read_next.is in
    let has = read_one (g.K.Keyboard.text_left c.args.keyboard.now) (g.K.Keyboard.text_left c.reading.keyboard) (g.K.Keyboard.text_left c.read_next.new.keyboard)
    (g.K.Keyboard.typed c.args.keyboard.now) (g.K.Keyboard.typed c.reading.keyboard) (g.K.Keyboard.typed c.read_next.new.keyboard)
    c.reading.lines.items c.read_next.new.lines.items one.0 c.reading.invariant.read (one.1) one.2 one.3 one.4 in
    group_goes_on (g.K.Keyboard.has_ended c.read_next.new.keyboard) (g.K.Keyboard.text_left c.args.keyboard.now) (g.K.Keyboard.text_left c.read_next.new.keyboard)
    (g.K.Keyboard.typed c.args.keyboard.now) (g.K.Keyboard.typed c.read_next.new.keyboard) c.read_next.new.lines.items c.unended-in_default-reserve.result.lines.items c.unended-in_default-reserve.result.then (c.unended-in_default-reserve.ensures.lines ∙ c.reserve-in-reading.ensures.items) c.unended-in_default-reserve.ensures.then has

pub reading-preserved : goal.reading-preserved
reading-preserved g c =
    let one = c.read_next.ensures.line c.in_default-read_next.is in
    let has = read_one (g.K.Keyboard.text_left c.args.keyboard.now) (g.K.Keyboard.text_left c.reading.keyboard) (g.K.Keyboard.text_left c.read_next.new.keyboard)
    (g.K.Keyboard.typed c.args.keyboard.now) (g.K.Keyboard.typed c.reading.keyboard) (g.K.Keyboard.typed c.read_next.new.keyboard)
    c.reading.lines.items c.reserve-in-reading.new.self.items one.0 c.reading.invariant.read (c.reserve-in-reading.ensures.items ∙ one.1) one.2 one.3 one.4 in
    record {
      room = omega (arith, c.in-Ok-reserve.ensures.ok);
      some = omega (arith, ap length (c.reserve-in-reading.ensures.items ∙ one.1), length-append c.reading.lines.items (one.0 ∷ []), c.reading.invariant.some);
      counted = omega (arith, ap length (c.reserve-in-reading.ensures.items ∙ one.1), length-append c.reading.lines.items (one.0 ∷ []), c.reading.invariant.counted);
      few = omega (arith, ap length (c.reserve-in-reading.ensures.items ∙ one.1), length-append c.reading.lines.items (one.0 ∷ []), c.reading.invariant.counted, c.reading-test.true);
      read = has;
    }

pub returns-then-not-has_line-clause-some : goal.returns-then-not-has_line-clause-some
returns-then-not-has_line-clause-some g c more =
    let one = c.read_next.ensures.line c.in_default-read_next.is in
    omega (arith, ap length (c.unended.ensures.lines ∙ one.1), length-append c.reading.lines.items (one.0 ∷ []))

pub returns-in_default-reserve-clause-some : goal.returns-in_default-reserve-clause-some
returns-in_default-reserve-clause-some g c more =
    let one = c.read_next.ensures.line c.in_default-read_next.is in
    omega (arith, ap length (c.unended-in_default-reserve.ensures.lines ∙ c.reserve-in-reading.ensures.items ∙ one.1), length-append c.reading.lines.items (one.0 ∷ []))

pub returns-in-Some-clause-some : goal.returns-in-Some-clause-some
returns-in-Some-clause-some g c more = absurd (c.in-Some.ensures.over more)

pub returns-in-Some-clause-failed : goal.returns-in-Some-clause-failed
returns-in-Some-clause-failed g c is = c.read_next.ensures.failed (c.in-Some.is ∙ ap (λ (t : Then). Some t) is)

pub returns-in_default-clause-read : goal.returns-in_default-clause-read
returns-in_default-clause-read g c =
    failed_group (g.K.Keyboard.has_ended c.args.keyboard.now) (g.K.Keyboard.text_left c.args.keyboard.now) (g.K.Keyboard.text_left c.args.keyboard.now)
    (g.K.Keyboard.typed c.args.keyboard.now) (g.K.Keyboard.typed c.args.keyboard.now) c.reserve.new.self.items NoMemory refl (c.reserve.ensures.items ∙ c.new-lines.ensures.items)

pub returns-in_default-clause-few : goal.returns-in_default-clause-few
returns-in_default-clause-few g c = omega (arith, ap length (c.reserve.ensures.items ∙ c.new-lines.ensures.items))

pub returns-in-Some-clause-few : goal.returns-in-Some-clause-few
returns-in-Some-clause-few g c = omega (arith, ap length c.in-Some.ensures.end.0, c.reading.invariant.few)

pub returns-then-not-has_line-clause-few : goal.returns-then-not-has_line-clause-few
returns-then-not-has_line-clause-few g c =
    let one = c.read_next.ensures.line c.in_default-read_next.is in
    omega (arith, ap length (c.unended.ensures.lines ∙ one.1), length-append c.reading.lines.items (one.0 ∷ []), c.reading.invariant.counted, c.reading-test.true)

pub returns-in_default-reserve-clause-few : goal.returns-in_default-reserve-clause-few
returns-in_default-reserve-clause-few g c =
    let one = c.read_next.ensures.line c.in_default-read_next.is in
    omega (arith, ap length (c.unended-in_default-reserve.ensures.lines ∙ c.reserve-in-reading.ensures.items ∙ one.1), length-append c.reading.lines.items (one.0 ∷ []), c.reading.invariant.counted, c.reading-test.true)
