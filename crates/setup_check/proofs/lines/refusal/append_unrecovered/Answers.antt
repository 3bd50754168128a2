use Rattle.std.proofs.Common.{◌≡◌, ◌++◌, ◌∙◌, List, ℕ, ap, append_assoc}
use Rattle.std.specs.Prelude.{codes}
use Rattle.setup_check.proofs.lines.refusal.append_unrecovered.Goals as goal

pub returns : goal.returns
returns c =
    let said : List ℕ = codes "the folder is not recovered: start with --out " in
    let first : c.extend_from_slice.new.self.items ≡ c.args.text.now.items ++ said = c.in_ok-extend_from_slice.ensures.items in
    let second : c.extend_from_slice-2.new.self.items ≡ c.extend_from_slice.new.self.items ++ c.folder_of.result.now = c.in_ok-extend_from_slice-2.ensures.items in
    record {
      ok = second ∙ ap (λ (l : List ℕ). l ++ c.folder_of.result.now) first ∙ append_assoc c.args.text.now.items said c.folder_of.result.now
          ∙ ap (λ (l : List ℕ). c.args.text.now.items ++ (said ++ l)) c.folder_of.ensures.value;
    }
