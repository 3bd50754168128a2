use Rattle.std.proofs.Common.{Some, ap, sym, refl, ◌∙◌}
use Rattle.std.specs.Prelude.{slice_set}
use Rattle.std.proofs.lemmas.Option.{slice_get-get_or}
use Rattle.catalogue_core.specs.declared.source.TableSource.{TableSource}
use Rattle.office_run.specs.Loading.{HasIndex}
use Rattle.office_run.proofs.NamesLaws.{still_named}
use Rattle.office_run.proofs.load.add_index.Goals as goal

pub position_of-requires : goal.position_of-requires
position_of-requires c = record { names = rw c.deref.ensures.value c.requires.names }

pub returns : goal.returns
returns c =
    let old = c.args.tables.now.items in
    let table = c.index_mut.result.now in
    let place = c.in-Some.position in
    let changed : TableSource = record { name = table.name; content = table.content; indexes = c.push.new.self } in
    let has : HasIndex c.args.table.now c.args.index old (slice_set old place changed) = record {
      place = place;
      table = table;
      changed = changed;
      first = sym (rw c.deref.ensures.value at c.in-Some.ensures.value);
      there = slice_get-get_or old place table (rw c.deref.ensures.value at c.in-Some.ensures.inside) ∙ ap (λ (t : TableSource). Some t) (sym c.index_mut.ensures.value);
      one_more = record { named = refl; content = refl; indexes = c.in_ok-push.ensures.items };
      others = refl;
    } in
    record { names = still_named c.args.names.now c.args.table.now c.args.index old (slice_set old place changed) c.requires.names has; added = has }
