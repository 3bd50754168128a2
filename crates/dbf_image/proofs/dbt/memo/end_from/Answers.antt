use Rattle.std.proofs.Common.{◌≡◌, ◌+◌, ℕ, length, take, drop, ap, ◌∙◌, eqb, arith}
use Rattle.std.specs.List.{position_or_len}
use Rattle.dbf_image.proofs.Ends.{end_found, end_after, end_inside}
use Rattle.dbf_image.proofs.dbt.memo.end_from.Goals as goal
use Rattle.dbf_image.specs.declared.format.TheConstants.{MEMO_END}

pub returns-then-offset-part : goal.returns-then-offset-part
returns-then-offset-part c =
    let part = c.split_at-2.ensures.back ∙ ap (drop c.args.from) c.split_at.ensures.front in
    let offset_is = c.first_end-offset.ensures.value ∙ ap (position_or_len (λ b. eqb b MEMO_END)) part in
    let lt = rw (offset_is, part) at c.if-offset-part.true in
    record { value = ap (λ (n : ℕ). c.args.from + n) offset_is ∙ end_found c.args.dbt.now c.args.from c.args.to c.requires.order lt }

pub returns-else-offset-part : goal.returns-else-offset-part
returns-else-offset-part c =
    let part = c.split_at-2.ensures.back ∙ ap (drop c.args.from) c.split_at.ensures.front in
    let offset_is = c.first_end-offset.ensures.value ∙ ap (position_or_len (λ b. eqb b MEMO_END)) part in
    let ge = rw (offset_is, part) at c.if-offset-part.false in
    let all : position_or_len (λ b. eqb b MEMO_END) (drop c.args.from (take c.args.to c.args.dbt.now)) ≡ length (drop c.args.from (take c.args.to c.args.dbt.now)) =
    omega (arith, ge, end_inside (drop c.args.from (take c.args.to c.args.dbt.now))) in
    record { value = end_after c.args.dbt.now c.args.from c.args.to c.args.end c.requires.order c.requires.inside c.requires.known all }
