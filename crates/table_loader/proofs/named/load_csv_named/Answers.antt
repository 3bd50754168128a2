use Rattle.std.proofs.Common.{◌∙◌, List, ap, sym, ℕ}
use Rattle.table_loader.specs.declared.fault.CsvFault.{CsvFault}
use Rattle.table_loader.specs.FaultWords.{field_at_fault, name_at_fault}
use Rattle.table_loader.proofs.named.load_csv_named.Goals as goal

pub returns-in-Err-clause-named : goal.returns-in-Err-clause-named
returns-in-Err-clause-named c = c.no_memory.ensures.field ∙ ap (λ (why : CsvFault). field_at_fault c.args.table.schema why) (sym c.no_memory.ensures.why)

pub returns-in-Err-load_csv-clause-named : goal.returns-in-Err-load_csv-clause-named
returns-in-Err-load_csv-clause-named c =
    c.named.ensures.field
    ∙ (ap (λ (names : List (List ℕ)). name_at_fault names c.in-Err-load_csv.why) c.in-Ok.ensures.names
    ∙ ap (λ (why : CsvFault). field_at_fault c.args.table.schema why) (sym c.named.ensures.why))
