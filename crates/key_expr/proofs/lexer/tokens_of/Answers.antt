use Rattle.std.proofs.Common.{◌≡◌, ◌++◌, List, arith, sym, ◌∙◌, ap, append_assoc, length, zero}
use Rattle.std.proofs.lemmas.Grind.{common_steps}
use Rattle.key_expr.specs.declared.token.Token.{Token}
use Rattle.key_expr.specs.Tokens.{tokens_of}
use Rattle.key_expr.proofs.Lexing.{tokens_step, ends_in_end}
use Rattle.key_expr.proofs.lexer.tokens_of.Goals as goal

pub loop-rest-preserved : goal.loop-rest-preserved
loop-rest-preserved c =
    let step = tokens_step c.args.fields.now (length c.args.text.now) c.loop-rest.rest.now c.in-len1-up.len_at_least c.if-first-eq-BLANK.false in
    record {
      whole = rw (c.in_ok-push.ensures.items, c.kind_of.ensures.value, c.after_token-rest.ensures.value, append_assoc)
          (ap (λ (ts : List Token). c.loop-rest.tokens.items ++ ts) (sym step) ∙ c.loop-rest.invariant.whole);
      short = omega (arith, c.after_token-rest.ensures.shorter, c.loop-rest.invariant.short, c.in-len1-up.len_at_least);
    }

pub returns-clause-ended : goal.returns-clause-ended
returns-clause-ended c =
    let value : c.push-2.new.self.items ≡ tokens_of c.args.fields.now c.args.text.now = grind (arith, common_steps) in
    rw value (ends_in_end c.args.fields.now (length c.args.text.now) zero c.args.text.now)
