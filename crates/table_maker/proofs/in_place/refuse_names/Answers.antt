use Rattle.std.proofs.Common.{◌≡◌, ◌∙◌, List, ℕ, None, refl, ap, sym, subst, arith}
use Rattle.std.proofs.lemmas.Option.{slice_get_read}
use Rattle.std.specs.Prelude.{IsSome}
use Rattle.files_in_place.specs.Folder.{Folder}
use Rattle.files_in_place.proofs.Each.{each_next}
use Rattle.table_maker.proofs.PlaceLaws.{stays_both, taken_at}
use Rattle.table_maker.proofs.in_place.refuse_names.Goals as goal

pub loop-name-preserved : goal.loop-name-preserved
loop-name-preserved g c =
    let m = g.D.Disk.meaning in
    record {
      free = λ promised.
          let P : List ℕ → Type 0 = λ name. m.seen c.args.disk.now name ≡ None in
          let now = subst (λ (name : List ℕ). m.seen c.loop-name.disk name ≡ None) c.as_slice.ensures.value (c.in-Ok.ensures.free promised) in
          each_next P c.args.names.now c.loop-name.name-index c.name-item.result c.loop-name-test.true c.name-item.is (c.loop-name.invariant.free promised)
          (ap (λ (f : Folder). f c.name-item.result) (sym c.loop-name.invariant.same) ∙ now);
      recovered = stays_both m _ _ _ c.loop-name.invariant.recovered c.refuse_file.ensures.recovered;
      same = c.refuse_file.ensures.same ∙ c.loop-name.invariant.same;
      later = omega (arith, c.loop-name.invariant.later, c.refuse_file.ensures.later);
    }

pub returns-in-Err-clause-exists : goal.returns-in-Err-clause-exists
returns-in-Err-clause-exists g c promised told =
    let m = g.D.Disk.meaning in
    let now = subst (λ (name : List ℕ). IsSome (m.seen c.loop-name.disk name)) c.as_slice.ensures.value (c.in-Err.ensures.exists promised told) in
    taken_at c.args.names.now (m.seen c.args.disk.now) c.loop-name.name-index c.name-item.result
    (slice_get_read c.args.names.now _ c.loop-name.name-index c.name-item.result refl c.loop-name-test.true c.name-item.is)
    (subst (λ (f : Folder). IsSome (f c.name-item.result)) c.loop-name.invariant.same now)

pub returns-in-Err-clause-unread : goal.returns-in-Err-clause-unread
returns-in-Err-clause-unread g c told = omega (arith, c.loop-name.invariant.later, c.in-Err.ensures.unread told)
