use Rattle.std.proofs.Common.{◌∙◌, ap}
use Rattle.std.specs.Prelude.{List, ℕ, ◌++◌}
use Rattle.setup_check.proofs.AppendLaws.{six_parts}
use Rattle.setup_check.proofs.kept_lines.append_kept_line.Goals as goal

pub returns : goal.returns
returns c = record {
  ok = six_parts _ _ _ _ _ _ _ _ _ _ _ _ _
      (c.in_ok-extend_from_slice.ensures.items ∙ ap (λ (t : List ℕ). c.args.text.now.items ++ t) c.as_slice.ensures.value)
      c.in_ok-extend_from_slice-2.ensures.items
      (c.in_ok-extend_from_slice-3.ensures.items ∙ ap (λ (t : List ℕ). c.extend_from_slice-2.new.self.items ++ t) c.kind_words.ensures.value)
      c.in_ok-extend_from_slice-4.ensures.items
      c.in_ok-append_new_name.ensures.ok
      c.in_ok-push.ensures.items;
}
