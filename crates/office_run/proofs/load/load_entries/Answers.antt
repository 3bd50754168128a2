use Rattle.std.proofs.Common.{Some, ap, sym, ◌∙◌}
use Rattle.std.proofs.lemmas.Option.{slice_get-get_or}
use Rattle.station_lines.specs.declared.setup.entry.SetupEntry.{SetupEntry}
use Rattle.office_run.specs.Loading.{read_of}
use Rattle.office_run.proofs.LoadLaws.{err_exit, loaded_more}
use Rattle.office_run.proofs.NotedLaws.{noted_more}
use Rattle.office_run.proofs.TablesFirst.{can_load}
use Rattle.office_run.proofs.load.load_entries.Goals as goal

pub returns-in_err-load_entry-clause-fault : goal.returns-in_err-load_entry-clause-fault
returns-in_err-load_entry-clause-fault g c =
    let i = c.loop-entry.entry-index in
    let entry = c.entry-item.result in
    err_exit _ _ c.from_residual.ensures.1 (record {
      before = i;
      entry = entry;
      read = read_of c.loop-entry.loaded;
      next = slice_get-get_or c.args.entries.now i entry c.loop-entry-test.true ∙ ap (λ (e : SetupEntry). Some e) (sym c.entry-item.is);
      loaded = c.loop-entry.invariant.read;
      is_fault = rw c.loop-entry.invariant.kept at c.in_err-load_entry.ensures.fault;
    })

pub loop-entry-preserved : goal.loop-entry-preserved
loop-entry-preserved g c = record {
  read = loaded_more _ c.args.entries.now c.loop-entry.entry-index c.entry-item.result _ _ c.loop-entry-test.true c.entry-item.is c.loop-entry.invariant.read (rw c.loop-entry.invariant.kept at c.in_ok-load_entry.ensures.read);
  noted = noted_more _ _ c.args.entries.now c.loop-entry.entry-index c.entry-item.result _ _ _ c.loop-entry-test.true c.entry-item.is c.loop-entry.invariant.kept c.loop-entry.invariant.noted c.in_ok-load_entry.ensures.noted;
  names = c.in_ok-load_entry.ensures.names;
  kept = c.in_ok-load_entry.ensures.kept ∙ c.loop-entry.invariant.kept;
  loads = c.in_ok-load_entry.ensures.loads ∙ c.loop-entry.invariant.loads;
}

pub load_entry-requires : goal.load_entry-requires
load_entry-requires g c =
    let i = c.loop-entry.entry-index in
    let entry = c.entry-item.result in
    record {
      names = c.loop-entry.invariant.names;
      ready = can_load _ c.args.entries.now i entry (read_of c.loop-entry.loaded) c.requires.tables_first
          (slice_get-get_or c.args.entries.now i entry c.loop-entry-test.true ∙ ap (λ (e : SetupEntry). Some e) (sym c.entry-item.is)) c.loop-entry.invariant.read;
    }
