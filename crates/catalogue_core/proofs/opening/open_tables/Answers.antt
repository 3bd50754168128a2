use Rattle.std.proofs.Common.{◌≡◌, List, ◌∷◌, length, map, ap, sym, subst, inl, rules, arith}
use Rattle.std.specs.Vec.Iter.{into_iter_items}
use Rattle.catalogue_core.specs.declared.source.TableSource.{TableSource}
use Rattle.catalogue_core.specs.Opening.{TablesOpening}
use Rattle.catalogue_core.specs.Tables.{NamedTable, named_table}
use Rattle.catalogue_core.proofs.OpeningLaws.{differ_more}
use Rattle.catalogue_core.proofs.opening.open_tables.Goals as goal

pub loop-source-preserved : goal.loop-source-preserved
loop-source-preserved c =
    let items : into_iter_items c.loop-source.source-iterator ≡ c.in-Some.source ∷ into_iter_items c.next.new.self = search rules in
    let made = c.in_default.ensures.opened in
    record {
      rest = λ o h. c.loop-source.invariant.rest o
          (subst (λ (l : List TableSource). TablesOpening c.args.reindex (map named_table c.loop-source.opened.items) l o) (sym items)
          (inl (made.0, made.1, subst (λ (ts : List NamedTable). TablesOpening c.args.reindex ts (into_iter_items c.next.new.self) o) made.2 h)));
      differ = rw c.in_default.ensures.name (differ_more _ c.in-Some.source.name c.loop-source.invariant.differ c.in_default.ensures.new);
      count_bounded = omega (arith, ap (λ (l : List TableSource). length l) items, c.in_default.ensures.count, c.loop-source.invariant.count_bounded);
    }
