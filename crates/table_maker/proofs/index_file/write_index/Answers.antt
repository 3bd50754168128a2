use Rattle.std.proofs.Common.{◌≡◌, List, [], ◌∷◌, subst}
use Rattle.folders.specs.Placed.{IsListedAfter}
use Rattle.ndx_index.specs.declared.pair.Pair.{Pair}
use Rattle.table_maker.specs.MadeIndex.{index_file}
use Rattle.table_maker.proofs.IndexLaws.{listed_alone}
use Rattle.table_maker.proofs.index_file.write_index.Goals as goal

pub returns-clause-written : goal.returns-clause-written
returns-clause-written g c =
    subst (λ (pairs : List Pair). IsListedAfter (λ made. made ≡ index_file c.args.name.now c.args.key.now pairs ∷ []) (g.F.ByteSink.written c.args.folder.now)
    (g.F.ByteSink.written c.write_pairs.new.folder)) c.in_ok-pairs.ensures.pairs
    (listed_alone _ _ _ c.in_ok-write_pairs.ensures.wrote c.in_ok-write_pairs.ensures.bytes)
