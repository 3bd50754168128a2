use Rattle.std.proofs.Common.{◌≡◌, ◌<◌, ◌+◌, ◌∷◌, Some, ap, sym, ◌∙◌, drop, length, List, refl, rules, arith, Result}
use Rattle.std.proofs.lemmas.Option.{slice_get-get_or}
use Rattle.std.specs.Vec.Iter.{into_iter_items}
use Rattle.station_lines.specs.declared.setup.entry.SetupEntry.{SetupEntry}
use Rattle.setup_files.specs.declared.content.EntryContent.{EntryContent}
use Rattle.setup_files.specs.declared.fault.EntryFault.{EntryFault}
use Rattle.setup_files.proofs.ReadLaws.{reads_each}
use Rattle.office_run.specs.Loading.{read_of}
use Rattle.office_run.proofs.LoadLaws.{err_exit, left_read, loaded_more, next_entry, next_refused}
use Rattle.office_run.proofs.NamesLaws.{none_named}
use Rattle.office_run.proofs.TablesFirst.{can_load}
use Rattle.office_run.proofs.loaded.Loaded.from_reads.Goals as goal

pub loop-read-init : goal.loop-read-init
loop-read-init c =
    let items : into_iter_items c.into_iter-read-iterator.result ≡ c.args.reads.items = search rules in
    let given = c.requires.of_entries in
    let each = reads_each given.0 c.args.entries.now c.args.reads.items given.1 in
    record {
      left = λ files h. rw items h;
      read = λ files h. rw (c.new.ensures.items, c.new-2.ensures.items) refl;
      names = rw (c.new.ensures.items, c.new-names.ensures.value) none_named;
      first = rw items refl;
      count = omega (arith, ap (λ (l : List (Result EntryContent EntryFault)). length l) items, each);
    }

pub add_read-requires-clause-ready : goal.add_read-requires-clause-ready
add_read-requires-clause-ready c =
    let i = c.loop-read.index in
    let entries = c.args.entries.now in
    let entry = c.index-entries-index.result in
    let given = c.requires.of_entries in
    let items : into_iter_items c.loop-read.read-iterator ≡ c.in-Some.read ∷ into_iter_items c.next.new.self = search rules in
    let lt : i < length entries = omega (arith, ap (λ (l : List (Result EntryContent EntryFault)). length l) items, c.loop-read.invariant.count) in
    can_load given.0 entries i entry (read_of c.loop-read.loaded) c.requires.tables_first
    (slice_get-get_or entries i entry lt ∙ ap (λ (e : SetupEntry). Some e) (sym c.index-entries-index.is)) (c.loop-read.invariant.read given.0 given.1)

pub returns-in_err-add_read-clause-fault : goal.returns-in_err-add_read-clause-fault
returns-in_err-add_read-clause-fault c = λ files h.
    let i = c.loop-read.index in
    let entries = c.args.entries.now in
    let entry = c.index-entries-index.result in
    let items : into_iter_items c.loop-read.read-iterator ≡ c.in-Some.read ∷ into_iter_items c.next.new.self = search rules in
    let lt : i < length entries = omega (arith, ap (λ (l : List (Result EntryContent EntryFault)). length l) items, c.loop-read.invariant.count) in
    let next = left_read files (drop i entries) (drop (i + 1) entries) entry _ _ c.in-Some.read (next_entry entries i entry lt c.index-entries-index.is) items (c.loop-read.invariant.left files h) in
    err_exit _ _ c.from_residual.ensures.1 (record {
      before = i;
      entry = entry;
      read = read_of c.loop-read.loaded;
      next = slice_get-get_or entries i entry lt ∙ ap (λ (e : SetupEntry). Some e) (sym c.index-entries-index.is);
      loaded = c.loop-read.invariant.read files h;
      is_fault = c.in_err-add_read.ensures.fault files next.0;
    })

pub loop-read-preserved : goal.loop-read-preserved
loop-read-preserved c =
    let i = c.loop-read.index in
    let entries = c.args.entries.now in
    let entry = c.index-entries-index.result in
    let read = c.in-Some.read in
    let before = c.loop-read.invariant in
    let items : into_iter_items c.loop-read.read-iterator ≡ read ∷ into_iter_items c.next.new.self = search rules in
    let lt : i < length entries = omega (arith, ap (λ (l : List (Result EntryContent EntryFault)). length l) items, before.count) in
    let here = next_entry entries i entry lt c.index-entries-index.is in
    record {
      left = λ files h. (left_read files (drop i entries) (drop (i + 1) entries) entry _ _ read here items (before.left files h)).1;
      read = λ files h.
          let next = left_read files (drop i entries) (drop (i + 1) entries) entry _ _ read here items (before.left files h) in
          loaded_more files entries i entry _ _ lt c.index-entries-index.is (before.read files h) (c.in_ok-add_read.ensures.read files next.0);
      names = c.in_ok-add_read.ensures.names;
      first = before.first ∙ next_refused (drop i entries) (drop (i + 1) entries) entry _ _ read here items c.in_ok-add_read.ensures.whole;
      count = omega (arith, ap (λ (l : List (Result EntryContent EntryFault)). length l) items, before.count);
    }
