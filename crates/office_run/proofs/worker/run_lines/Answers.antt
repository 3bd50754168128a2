use Rattle.std.proofs.Common.{◌≡◌, List, ℕ, [], length, ap, sym, subst, ◌∙◌, arith}
use Rattle.office_run.specs.Reports.{meaning_of, SessionValue, new_session}
use Rattle.station_lines.specs.Script.Meaning.{Means}
use Rattle.office_run.proofs.RunLaws.{IsUpTo, up_to_start, up_to_blank, up_to_shown, up_to_end, up_to_left, on_err}
use Rattle.office_run.proofs.worker.run_lines.Goals as goal

pub loop-text-preserved-in_default-2 : goal.loop-text-preserved-in_default-2
loop-text-preserved-in_default-2 g c =
    record {
      up_to = up_to_blank c.loop-text.cursor c.in-Some.text.now c.next_line.new.self c.args.session.now.seat c.args.script.now c.loop-text.session c.loop-text.invariant.up_to c.in-Some.ensures.line (c.parse_unless_blank.ensures.none cc);
      count = omega (arith, c.loop-text.invariant.count, c.in-Some.ensures.shorter);
    }

pub run_line-requires : goal.run_line-requires
run_line-requires g c = record { some = (c.parse_unless_blank.ensures.some c.in-Some-2.line cc).1 }

pub loop-text-preserved : goal.loop-text-preserved
loop-text-preserved g c =
    let read = c.parse_unless_blank.ensures.some c.in-Some-2.line cc in
    let shown = c.in_ok-run_line.ensures.shown in
    let means : Means c.in-Some.text.now (meaning_of shown.0) = subst (Means c.in-Some.text.now) (sym shown.1) read.0 in
    record {
      up_to = up_to_shown c.loop-text.cursor c.in-Some.text.now c.next_line.new.self c.args.session.now.seat c.args.script.now c.loop-text.session c.run_line.new.self shown.0 c.loop-text.invariant.up_to c.in-Some.ensures.line means shown.2;
      count = omega (arith, c.loop-text.invariant.count, c.in-Some.ensures.shorter);
    }

pub loop-text-init : goal.loop-text-init
loop-text-init g c =
    let z = c.args.session.now.seat in
    let script = c.args.script.now in
    let same : c.lines-cursor.result ≡ script = c.lines-cursor.ensures.value ∙ c.as_slice.ensures.value in
    record {
      up_to =
          subst (λ (s : SessionValue). IsUpTo c.lines-cursor.result z script s) (sym c.requires.none_run)
          (subst (λ (l : List ℕ). IsUpTo l z script (new_session z)) (sym same) (up_to_start z script));
      count = omega (arith, ap length same);
    }

pub returns-clause-ran : goal.returns-clause-ran
returns-clause-ran g c =
    let ended : c.loop-text.cursor ≡ [] = c.in_default.ensures.none in
    up_to_end c.args.session.now.seat c.args.script.now c.loop-text.session (subst (λ (l : List ℕ). IsUpTo l c.args.session.now.seat c.args.script.now c.loop-text.session) ended c.loop-text.invariant.up_to)

pub returns-in_err-run_line-clause-begun : goal.returns-in_err-run_line-clause-begun
returns-in_err-run_line-clause-begun g c =
    on_err _ _
    (up_to_left c.loop-text.cursor c.in-Some.text.now c.next_line.new.self c.args.session.now.seat c.args.script.now c.loop-text.session c.run_line.new.self c.in-Some-2.line c.loop-text.invariant.up_to
    c.in-Some.ensures.line (c.parse_unless_blank.ensures.some c.in-Some-2.line cc).0 c.in_err-run_line.ensures.left)
