use Rattle.std.proofs.Common.{◌≡◌, Some, Result, [], sym, ap, ◌∙◌, arith}
use Rattle.std.specs.Prelude.{option_copied, slice_get}
use Rattle.std.proofs.lemmas.List.Quantifiers.{position-Some}
use Rattle.std.proofs.lemmas.Option.{slice_get-get_or}
use Rattle.station_lines.specs.declared.setup.entry.SetupEntry.TheVariants.{Station}
use Rattle.station_lines.specs.Setup.{is_table_of}
use Rattle.setup_files.specs.declared.content.EntryContent.{EntryContent}
use Rattle.setup_files.specs.declared.fault.EntryFault.{EntryFault}
use Rattle.setup_files.proofs.ReadLaws.{reads_each}
use Rattle.setup_check.proofs.FindingLaws.{borrowed, named_by}
use Rattle.setup_check.proofs.look.table_named.Goals as goal

pub returns : goal.returns
returns c = record {
  named = λ files before findings are h k.
      let reads = c.args.reads.now in
      let position = c.in_ok-position.position in
      let read = c.in_ok-get.field-0.now in
      let at = c.in_ok-get.ensures.lookup.3 in
      let there : slice_get reads position ≡ Some read = slice_get-get_or reads position read at.0 ∙ ap (λ (r : Result EntryContent EntryFault). Some r) (sym (at.1 read)) in
      borrowed c.table_of.result _ _
      (named_by files c.args.table.now before reads findings position read (option_copied c.table_of.result) (sym (c.in_ok-position.ensures.value before are)) there c.table_of.ensures.value h k);
}

pub returns-in_err-get : goal.returns-in_err-get
returns-in_err-get c = record {
  named = λ files before findings are h k.
      let passes = position-Some (is_table_of c.args.table.now) before c.in_ok-position.position (Station []) (sym (c.in_ok-position.ensures.value before are)) in
      let many = reads_each files before c.args.reads.now h in
      let past = c.in_err-get.ensures.lookup.3 in
      absurd (omega (arith, past, many, passes.0));
}
