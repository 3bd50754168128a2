use Rattle.std.proofs.Common.{List, ℕ, Some, length, ap, sym, ◌∙◌, arith}
use Rattle.dbf_image.specs.declared.memo_store.file_text.FileText.{FileText}
use Rattle.dbf_image.proofs.StoreLaws.{in_file}
use Rattle.dbf_image.proofs.memo_store.MemoStore.file_text.Goals as goal

pub bytes_at-requires : goal.bytes_at-requires
bytes_at-requires c =
    let there = in_file c.self.inside _ c.args.number c.self.view_is c.self.invariant c.requires.high c.requires.held in
    let file = c.as_slice.ensures.value in
    let texts = c.as_slice-2.ensures.value in
    record {
      there = omega (arith, there.within, ap (λ (ts : List FileText). length ts) texts);
      inside = rw (file, texts) there.stop;
    }

pub returns : goal.returns
returns c =
    let there = in_file c.self.inside _ c.args.number c.self.view_is c.self.invariant c.requires.high c.requires.held in
    let bytes = rw (c.as_slice.ensures.value, c.as_slice-2.ensures.value) at c.bytes_at.ensures.value in
    record { value = there.is ∙ ap (λ (t : List ℕ). Some t) (sym bytes) }
