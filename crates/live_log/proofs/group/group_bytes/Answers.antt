use Rattle.std.proofs.Common.{◌≡◌, List, Some, ap, sym, subst, ◌∙◌, arith}
use Rattle.std.specs.List.{slice_get}
use Rattle.std.proofs.lemmas.List.{take_all}
use Rattle.std.proofs.lemmas.Option.{slice_get-get_or}
use Rattle.catalogue_core.specs.declared.entry.Entry.{Entry}
use Rattle.live_log.specs.Gates.{HasPutEntries}
use Rattle.live_log.proofs.GroupLaws.{puts_on, is_log_of}
use Rattle.live_log.proofs.group.group_bytes.Goals as goal

pub loop-entry-preserved : goal.loop-entry-preserved
loop-entry-preserved c =
    let entries = c.args.entries.now in
    let i = c.loop-entry.entry-index in
    let entry = c.entry-item.result in
    let at : slice_get entries i ≡ Some entry = slice_get-get_or entries i entry c.loop-entry-test.true ∙ ap (λ (e : Entry). Some e) (sym c.entry-item.is) in
    puts_on entries i entry c.in_ok-text.text.now c.loop-entry.bytes.items c.append_line.new.bytes.items at
    c.in_ok-text.ensures.value c.in_ok-text.ensures.small c.in_ok-append_line.ensures.ok c.loop-entry.invariant

pub returns-clause-bytes : goal.returns-clause-bytes
returns-clause-bytes c =
    let entries = c.args.entries.now in
    let all = take_all c.loop-entry.entry-index entries (omega (arith, c.loop-entry-test.false)) in
    is_log_of entries c.loop-entry.bytes.items c.push.new.self.items (subst (λ (es : List Entry). HasPutEntries es c.loop-entry.bytes.items) all c.loop-entry.invariant) c.in_ok-push.ensures.items
