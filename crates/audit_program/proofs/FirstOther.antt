-- The first entry of a journal that does not hold, in the program.
use Rattle.std.proofs.Common.{◌≡◌, ◌⊎◌, ℕ, List, [], Some, inl, inr, sym, ap, subst, ◌∙◌}
use Rattle.catalogue_core.specs.declared.entry.Entry.{Entry}
use Rattle.catalogue_core.specs.Replay.{Opened, History}
use Rattle.folders.specs.declared.named.NamedFile.{NamedFile}
use Rattle.journal_file.specs.WholeText.{WholeJournal}
use Rattle.journal_file.proofs.TextLaws.{whole_one}
use Rattle.station_lines.specs.JournalLines.{journal_text, lines_and}
use Rattle.audit.specs.declared.fault.AuditFault.{AuditFault}
use Rattle.audit.specs.declared.fault.AuditFault.TheVariants.{NoEntry, Differs, TooLong, NoMemory}
use Rattle.audit.specs.declared.fault.Difference.{Difference}
use Rattle.audit.specs.Audits.{IsAuditFault, IsJournalOf}
use Rattle.audit.specs.FirstOther.{CanBeAudited, IsFirstOther}
use Rattle.audit.proofs.FirstOtherLaws.{names_it, never_all}
use Rattle.office_run.specs.OpenedSetup.{IsOpenedBy}
use Rattle.office_run.proofs.OneOpening.{one_file, one_opening}
use Rattle.audit_program.specs.declared.audited.Audited.{Audited}
use Rattle.audit_program.specs.declared.failure.AuditFailure.TheVariants.{Audit}
use Rattle.audit_program.specs.declared.options.Options.{Options}
use Rattle.audit_program.specs.Laws.{TellsEntriesOf}
use Rattle.audit_program.specs.Program.{IsAuditedTo, IsFailedBy, IsJournalIn, IsRefuted}

module _ (files : List NamedFile) (options : Options) (opened : Opened) (entries : List Entry) (d : Difference) (tables : IsOpenedBy (Some files) options.setup.now options.reindex opened)
    (has : TellsEntriesOf files options.journal.now entries) (can : CanBeAudited opened entries) (other : IsFirstOther opened entries d) where
  -- the journal's lines are those of the entries
  lines_are : (journal : WholeJournal) → IsJournalIn (Some files) options.journal.now journal → lines_and journal.entries [] ≡ journal_text entries
  lines_are journal found =
      let text : has.in_file.text ≡ found.text = one_file files options.journal.now has.in_file.text found.text has.in_file.found found.found in
      let one : has.journal ≡ journal = whole_one has.journal journal has.in_file.whole found.whole (sym has.in_file.text_is ∙ text ∙ found.text_is) in
      ap (λ (j : WholeJournal). lines_and j.entries []) (sym one) ∙ ap (λ (es : List (ℕ × List ℕ × List ℕ)). lines_and es []) has.lines

  same_tables : (again : Opened) → IsOpenedBy (Some files) options.setup.now options.reindex again → again ≡ opened
  same_tables again opens = one_opening files options.setup.now options.reindex again opened opens tables

  named : (why : AuditFault) → IsRefuted (Some files) options why → (why ≡ NoMemory) ⊎ (why ≡ Differs d)
  named why refuted =
      let lines = lines_are refuted.journal refuted.asked.of_run.in_file in
      let at : IsAuditFault opened (journal_text entries) why =
      subst (λ (text : List ℕ). IsAuditFault opened text why) lines
      (subst (λ (o : Opened). IsAuditFault o (lines_and refuted.journal.entries []) why) (same_tables refuted.opened refuted.asked.tables) refuted.at) in
      names_it opened entries d can other why at

  pub names_first : (why : AuditFault) → IsFailedBy (Some files) options (Audit why) → why ≡ Differs d
  names_first (NoEntry n) failed = elim (named (NoEntry n) failed) [ inl none ↦ absurd cc | inr is ↦ is ]
  names_first (Differs e) failed = elim (named (Differs e) failed) [ inl none ↦ absurd cc | inr is ↦ is ]
  names_first TooLong failed = elim (named TooLong failed) [ inl none ↦ absurd cc | inr is ↦ is ]
  names_first NoMemory failed = absurd failed

  pub never_passes : (h : History) (audited : Audited) → ¬ IsAuditedTo (Some files) options h audited
  never_passes h audited is =
      let lines = lines_are is.journal is.asked.of_run.in_file in
      let holds : IsJournalOf opened (journal_text entries) h.journal =
      subst (λ (text : List ℕ). IsJournalOf opened text h.journal) lines
      (subst (λ (o : Opened). IsJournalOf o (lines_and is.journal.entries []) h.journal) (same_tables h.opened is.asked.tables) is.holds) in
      never_all opened entries d can other h.journal holds
