use Rattle.std.proofs.Common.{◌≡◌, [], take, drop}
use Rattle.dbf_fields.specs.Faults.{first_fault}
use Rattle.table_loader.specs.Headings.{names_tests}
use Rattle.table_loader.proofs.heading.check_names.Given as goal

-- the tests that are left decide
abbrev pub invariant-loop-column : goal.invariant-loop-column
invariant-loop-column l =
    first_fault (names_tests l.fields (take l.column l.names) (drop l.column l.names)) ≡ first_fault (names_tests l.fields [] l.names)
