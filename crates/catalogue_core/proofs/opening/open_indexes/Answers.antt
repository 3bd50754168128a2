use Rattle.std.proofs.Common.{◌≡◌, List, map, true, false, Ok, Err}
use Rattle.std.proofs.lemmas.Result.{IfErr-weaker, IfOk-weaker}
use Rattle.catalogue_core.specs.declared.source.IndexSource.{IndexSource}
use Rattle.catalogue_core.specs.Opening.{name_and_text, without_indexes, IndexesOpening}
use Rattle.catalogue_core.specs.Tables.{named_table}
use Rattle.catalogue_core.proofs.AnewLaws.{opened_for}
use Rattle.catalogue_core.proofs.opening.open_indexes.Goals as goal
use Rattle.catalogue_core.proofs.opening.open_indexes.Goals.{then-reindex, else-reindex}

-- the indexes that are made have the names and texts of those that were given
anew : (c : goal.After-add_indexes) → c.args.reindex ≡ true → map name_and_text c.if-reindex.indexes.items ≡ map name_and_text c.args.indexes.items
anew c e = elim c.if-reindex.branch [
  | then-reindex w ↦ (let same = w.let_pairs_go.ensures.same in let is = w.indexes-is in cc)
  | else-reindex w ↦ absurd (let no = w.if-reindex.false in cc)
]

-- without reindex they are those that were given
kept : (c : goal.After-add_indexes) → c.args.reindex ≡ false → c.if-reindex.indexes.items ≡ c.args.indexes.items
kept c e = elim c.if-reindex.branch [
  | then-reindex w ↦ absurd (let yes = w.if-reindex.true in cc)
  | else-reindex w ↦ (let is = w.indexes-is in cc)
]

pub returns-clause-opened : goal.returns-clause-opened
returns-clause-opened c =
    let earlier = map named_table c.args.earlier.now in
    let made : List IndexSource = c.if-reindex.indexes.items in
    IfOk-weaker c.add_indexes.result _ (λ table. IndexesOpening c.args.reindex earlier (without_indexes c.args.content) c.args.indexes.items (Ok table.content))
    (λ table opened. opened_for c.args.reindex earlier (without_indexes c.args.content) made c.args.indexes.items (Ok table.content) (anew c) (kept c) opened) c.add_indexes.ensures.opened

pub returns-clause-refused : goal.returns-clause-refused
returns-clause-refused c =
    let earlier = map named_table c.args.earlier.now in
    let made : List IndexSource = c.if-reindex.indexes.items in
    IfErr-weaker c.add_indexes.result _ (λ fault. IndexesOpening c.args.reindex earlier (without_indexes c.args.content) c.args.indexes.items (Err fault))
    (λ fault opened. opened_for c.args.reindex earlier (without_indexes c.args.content) made c.args.indexes.items (Err fault) (anew c) (kept c) opened) c.add_indexes.ensures.refused
