use Rattle.std.proofs.Common.{◌≡◌, ℕ, ◌+◌, ◌∷◌, [], length, Some, ap, sym, ◌∙◌, arith, length-append}
use Rattle.office_run.specs.HandedOver.{IsHandedOver}
use Rattle.office_run.proofs.CopyLaws.{handed_as_it_is, one_more_handed}
use Rattle.office_run.proofs.copying.copied_tables.Goals as goal

pub loop-i-preserved : goal.loop-i-preserved
loop-i-preserved c =
    let h = c.args.catalogue.now in
    let i = c.loop-i.i in
    let old = c.loop-i.copies.items in
    let copy = c.in_ok-copy.copy in
    let have = c.loop-i.invariant in
    let pushed = c.in_ok-push.ensures.items in
    let own : IsHandedOver h (i + 1) copy =
    handed_as_it_is h (i + 1) c.table.result.now.content copy (c.table_name.ensures.value ∙ ap Some (sym c.in_ok-copy.ensures.named)) c.table.ensures.value
    c.in_ok-copy.ensures.content c.in_ok-copy.ensures.indexes c.in_ok-copy.ensures.table c.in_ok-copy.ensures.read in
    record {
      count = ap length pushed ∙ length-append old (copy ∷ []) ∙ ap (λ (k : ℕ). k + 1) have.count;
      each = one_more_handed h old _ copy i pushed have.count have.each own;
    }

pub returns : goal.returns
returns c =
    let have = c.loop-i.invariant in
    let all : c.loop-i.i ≡ c.table_count-i-end.result = omega (arith, c.loop-i-test.false, c.loop-i.auto.i-end) in
    record { value = record { count = have.count ∙ all ∙ c.table_count-i-end.ensures.value; each = λ j low. have.each j (omega (arith, low, all, c.table_count-i-end.ensures.value)) } }
