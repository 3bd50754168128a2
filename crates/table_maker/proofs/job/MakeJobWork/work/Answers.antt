use Rattle.std.proofs.Common.{◌≡◌, ◌∙◌, List, ap}
use Rattle.dbf_image.specs.Table.{Table}
use Rattle.folders.specs.declared.named.NamedFile.{NamedFile}
use Rattle.table_maker.specs.MadeTable.{AreFilesOfJob}
use Rattle.table_maker.specs.Making.{files_of_table}
use Rattle.table_maker.proofs.LoadLaws.{listed_as}
use Rattle.table_maker.proofs.job.MakeJobWork.work.Goals as goal

pub returns-clause-done : goal.returns-clause-done
returns-clause-done g c =
    listed_as (λ (made : List NamedFile). made ≡ files_of_table c.args.self.now.stem.now c.args.self.now.in_capitals c.args.self.now.today c.empty-table.result)
    (AreFilesOfJob (g.S.Source.files c.args.source.now) c.args.self.now) _ _
    (λ files is. (_, c.in_ok-schema.ensures.listed, is ∙ ap (λ (table : Table). files_of_table c.args.self.now.stem.now c.args.self.now.in_capitals c.args.self.now.today table) c.empty-table.ensures.value))
    c.in_ok-write_files.ensures.written
