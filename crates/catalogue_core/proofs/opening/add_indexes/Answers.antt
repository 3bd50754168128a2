use Rattle.std.proofs.Common.{◌≡◌, List, ◌∷◌, map, Err, refl, sym, subst, inr, rules}
use Rattle.std.specs.Vec.Iter.{into_iter_items}
use Rattle.catalogue_core.specs.declared.source.IndexSource.{IndexSource}
use Rattle.catalogue_core.specs.Opening.{IndexesOpening}
use Rattle.catalogue_core.specs.Tables.{named_table}
use Rattle.catalogue_core.proofs.opening.add_indexes.Goals as goal

pub returns-in-Err-clause-refused : goal.returns-in-Err-clause-refused
returns-in-Err-clause-refused c =
    let items : into_iter_items c.loop-index.index-iterator ≡ c.in-Some.index ∷ into_iter_items c.next.new.self = search rules in
    c.loop-index.invariant.rest (Err c.in-Err.fault)
    (subst (λ (l : List IndexSource). IndexesOpening c.args.reindex (map named_table c.args.earlier.now) c.loop-index.table.content l (Err c.in-Err.fault)) (sym items)
    (inr (c.in-Err.fault, c.in-Err.ensures.refused, refl)))
