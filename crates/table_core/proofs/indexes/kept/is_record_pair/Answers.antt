use Rattle.std.proofs.Common.{List, ℕ, sym, ap, arith}
use Rattle.ndx_index.specs.declared.pair.Pair.{Pair}
use Rattle.table_core.proofs.indexes.kept.is_record_pair.Goals as goal

pub returns : goal.returns
returns c =
    let has = c.has_key_at.ensures.value in
    record {
      value = (
        λ h. record {
          some = omega (arith, c.if-number-lt1.false);
          inside = omega (arith, c.if-number-record_count.false, c.record_count.ensures.count);
          own = ap (λ (b : List ℕ). record { key = b; number = c.args.number }) (sym (has.0 h));
        },
        λ is. has.1 (sym (ap (λ (q : Pair). q.key) is.own)),
      );
    }
