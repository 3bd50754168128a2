use Rattle.std.proofs.Common.{◌∙◌, List, ap, map, subst}
use Rattle.std.specs.List.{AllByRecursion}
use Rattle.dbf_image.specs.Table.{Table}
use Rattle.table_core.specs.Parts.{handed, HandedIndex}
use Rattle.office_run.specs.HandedOver.{closed_with, WasReadFor}
use Rattle.office_run.proofs.HandingLaws.{closed_all, read_all}
use Rattle.office_run.proofs.closing.closed_table.Goals as goal

pub returns-clause-indexes : goal.returns-clause-indexes
returns-clause-indexes c =
    let content = c.args.table.content in
    c.in_ok-indexes.ensures.value ∙ ap (λ (l : List HandedIndex). map closed_with l) c.in_ok-content.ensures.indexes ∙ closed_all content.table content.indexes

pub returns-clause-read : goal.returns-clause-read
returns-clause-read c =
    let content = c.args.table.content in
    read_all content.table.schema content.table content.indexes
    (subst (λ (l : List HandedIndex). AllByRecursion (WasReadFor content.table.schema) l) c.in_ok-content.ensures.indexes
    (subst (λ (t : Table). AllByRecursion (WasReadFor t.schema) (map handed c.in_ok-content.parts.items)) c.in_ok-content.ensures.data c.in_ok-indexes.ensures.read))
