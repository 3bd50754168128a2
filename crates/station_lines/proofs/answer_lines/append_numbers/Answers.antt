use Rattle.std.proofs.Common.{◌≡◌, List, ℕ, ◌+◌, ◌<◌, ◌++◌, length, take, sym, ap, ◌∙◌, get_or, rules}
use Rattle.std.specs.Prelude.{codes}
use Rattle.std.specs.Fmt.{decimal}
use Rattle.std.proofs.lemmas.List.{append_assoc, take_more}
use Rattle.station_lines.specs.AnswerLines.{numbers_text}
use Rattle.station_lines.proofs.StatusLaws.{numbers_text-push}
use Rattle.station_lines.proofs.answer_lines.append_numbers.Goals as goal

pub loop-number-preserved : goal.loop-number-preserved
loop-number-preserved c =
    let numbers = c.args.numbers.now in
    let start = c.args.line.now.items in
    let i = c.loop-number.number-index in
    let n = get_or numbers i 0 in
    let low : i < length numbers = search rules in
    let put : c.append_number.new.line.items ≡ (c.loop-number.line.items ++ codes " ") ++ decimal n = search rules in
    let more : numbers_text (take (i + 1) numbers) ≡ numbers_text (take i numbers) ++ (codes " " ++ decimal n) = ap numbers_text (take_more numbers i 0 low) ∙ numbers_text-push (take i numbers) n in
    put ∙ ap (λ (l : List ℕ). (l ++ codes " ") ++ decimal n) c.loop-number.invariant
    ∙ append_assoc (start ++ numbers_text (take i numbers)) (codes " ") (decimal n)
    ∙ append_assoc start (numbers_text (take i numbers)) (codes " " ++ decimal n)
    ∙ ap (λ (l : List ℕ). start ++ l) (sym more)
