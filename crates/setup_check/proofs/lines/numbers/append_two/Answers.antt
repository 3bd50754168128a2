use Rattle.std.proofs.Common.{ℕ, List, ◌++◌, ap, append_assoc, ◌∙◌}
use Rattle.std.specs.Fmt.{decimal}
use Rattle.std.proofs.lemmas.Result.{IfOk-equal}
use Rattle.setup_check.proofs.lines.numbers.append_two.Goals as goal

pub returns : goal.returns
returns c =
    let text : List ℕ = c.args.text.now.items in
    let words : List ℕ = c.args.words.now in
    let first : List ℕ = decimal c.args.number in
    let rest : List ℕ = c.args.more.now ++ decimal c.args.other in
    record {
      ok = IfOk-equal c.append_words-2.result _ (c.append_words.new.text.items ++ rest) _ c.append_words-2.ensures.ok
          (ap (λ (xs : List ℕ). xs ++ rest) c.in_ok-append_words.ensures.ok ∙ append_assoc text (words ++ first) rest ∙ ap (λ (xs : List ℕ). text ++ xs) (append_assoc words first rest));
    }
