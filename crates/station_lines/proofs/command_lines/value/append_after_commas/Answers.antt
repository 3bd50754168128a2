use Rattle.std.proofs.Common.{◌≡◌, List, ℕ, [], ◌∷◌, ◌+◌, ◌<◌, ◌++◌, length, take, sym, ap, ◌∙◌, get_or, rules}
use Rattle.std.specs.Fmt.{decimal}
use Rattle.std.proofs.lemmas.List.{append_assoc, take_more}
use Rattle.station_lines.specs.declared.script.format.TheConstants.{COMMA}
use Rattle.station_lines.specs.CommandLines.{after_commas}
use Rattle.station_lines.proofs.CommandLaws.ValueLaws.{after_commas-push}
use Rattle.station_lines.proofs.command_lines.value.append_after_commas.Goals as goal

pub loop-number-preserved : goal.loop-number-preserved
loop-number-preserved c =
    let numbers = c.args.numbers.now in
    let start = c.args.line.now.items in
    let i = c.loop-number.number-index in
    let n = get_or numbers i 0 in
    let low : i < length numbers = search rules in
    let put : c.append_number.new.line.items ≡ (c.loop-number.line.items ++ (COMMA ∷ [])) ++ decimal n = search rules in
    let more : after_commas (take (i + 1) numbers) ≡ after_commas (take i numbers) ++ (COMMA ∷ decimal n) = ap after_commas (take_more numbers i 0 low) ∙ after_commas-push (take i numbers) n in
    put ∙ ap (λ (l : List ℕ). (l ++ (COMMA ∷ [])) ++ decimal n) c.loop-number.invariant
    ∙ append_assoc (start ++ after_commas (take i numbers)) (COMMA ∷ []) (decimal n)
    ∙ append_assoc start (after_commas (take i numbers)) (COMMA ∷ decimal n)
    ∙ ap (λ (l : List ℕ). start ++ l) (sym more)
