use Rattle.std.proofs.Common.{◌≡◌, ℕ, ◌+◌, ◌-◌, ◌≤◌, ◌<◌, List, [], ◌∷◌, ◌++◌, length, map, Some, ap, sym, subst, ◌∙◌, ⊎_elim, append_assoc, arith, rules, length-append}
use Rattle.std.specs.List.{slice_get, AllByRecursion}
use Rattle.std.specs.Vec.Iter.{into_iter_items}
use Rattle.std.proofs.lemmas.Bool.{cases_lt}
use Rattle.std.proofs.lemmas.List.{length-map}
use Rattle.std.proofs.lemmas.Option.{slice_get-get_or}
use Rattle.dbf_image.specs.Table.{Table, IsTable}
use Rattle.table_core.specs.Content.{Content, Held}
use Rattle.catalogue_core.specs.Replay.{History, names_of, state_of}
use Rattle.office_run.specs.declared.closed.ClosedTable.{ClosedTable}
use Rattle.office_run.specs.HandedOver.{index_of, IsIndexFor, IsHandedOver, AreEndOf}
use Rattle.office_run.proofs.HandingLaws.{taken_table, get_front, get_last}
use Rattle.office_run.proofs.closing.handed_over.Goals as goal

pub loop-table-preserved : goal.loop-table-preserved
loop-table-preserved c =
    let ys = c.loop-table.yielded in
    let t = c.in-Some.table in
    let rest = into_iter_items c.next.new.self in
    let i = length ys in
    let old = c.loop-table.closed.items in
    let closed = c.in_ok-closed_table.field-0 in
    let have = c.loop-table.invariant in
    let grown = c.in_ok-push.ensures.items in
    let f = λ (x : Held). x.content in
    let names = c.args.names.now in
    let tables = c.args.tables.items in
    let items : into_iter_items c.loop-table.table-iterator ≡ t ∷ rest = search rules in
    let taken : ys ++ t ∷ rest ≡ tables = subst (λ (l : List Held). ys ++ l ≡ tables) items have.all in
    let more : length (ys ++ t ∷ []) ≡ i + 1 = length-append ys (t ∷ []) in
    let here : c.len.result ≡ i + 1 - 1 = omega (arith, c.len.ensures, c.loop-table.closed.ok.0, have.count) in
    let inside : c.len.result < length names = omega (arith, here, c.requires.as_many, ap length taken, length-append ys (t ∷ rest)) in
    let found = c.index-names-len.result in
    let read : slice_get names c.len.result ≡ Some found = slice_get-get_or names c.len.result found inside ∙ ap (λ (x : List ℕ). Some x) (sym c.index-names-len.is) in
    let same : closed.name ≡ found = c.in_ok-closed_table.ensures.named ∙ c.in_ok-name.ensures.value in
    let own : (h : History) → AreEndOf h names (map f tables) → IsHandedOver h (i + 1) closed = λ h end.
    let all : map f (ys ++ t ∷ rest) ≡ (state_of h).tables = ap (map f) taken ∙ end.ends in
    let content = taken_table h ys t rest all in
    let name : slice_get (names_of h.opened) (i + 1 - 1) ≡ Some closed.name =
    ap (λ (l : List (List ℕ)). slice_get l (i + 1 - 1)) (sym end.named) ∙ ap (λ (k : ℕ). slice_get names k) (sym here) ∙ read ∙ ap Some (sym same) in
    record {
      named = name;
      content = c.in_ok-closed_table.ensures.content ∙ ap (λ (x : Content). x.table) (sym content);
      indexes = c.in_ok-closed_table.ensures.indexes ∙ ap (λ (x : Content). map (index_of x.table) x.indexes) (sym content);
      table = subst IsTable (sym c.in_ok-closed_table.ensures.content) c.in_ok-closed_table.ensures.table;
      read = subst (λ (x : Content). AllByRecursion (IsIndexFor closed.content.schema) x.indexes) (sym content)
          (subst (λ (x : Table). AllByRecursion (IsIndexFor x.schema) t.content.indexes) (sym c.in_ok-closed_table.ensures.content) c.in_ok-closed_table.ensures.read);
    } in
    record {
      count = ap length grown ∙ length-append old (closed ∷ []) ∙ ap (λ (k : ℕ). k + 1) have.count ∙ sym more;
      all = append_assoc ys (t ∷ []) rest ∙ taken;
      each = λ h end j low. subst (λ (l : List ClosedTable). (x : ClosedTable) × (slice_get l j ≡ Some x) × IsHandedOver h (j + 1) x) (sym grown) (⊎_elim
          (λ (below : j < i). let r = have.each h end j below in let there : (x : ClosedTable) × (slice_get (old ++ closed ∷ []) j ≡ Some x) × IsHandedOver h (j + 1) x = (r.0, get_front old (closed ∷ []) j r.0 r.1, r.2) in there)
          (λ (above : i ≤ j).
          let at : i ≡ j = omega (arith, low, above, more) in
          let last : j ≡ length old = omega (arith, at, have.count) in
          let there : (x : ClosedTable) × (slice_get (old ++ closed ∷ []) j ≡ Some x) × IsHandedOver h (j + 1) x =
          (closed, get_last old closed j last, subst (λ (k : ℕ). IsHandedOver h (k + 1) closed) at (own h end)) in
          there)
          (cases_lt j i));
    }

pub returns : goal.returns
returns c =
    let ys = c.loop-table.yielded in
    let have = c.loop-table.invariant in
    let f = λ (x : Held). x.content in
    let it = c.loop-table.table-iterator in
    let tables = c.args.tables.items in
    let none : length (into_iter_items it) ≡ 0 = omega (arith, c.in-None.ensures.steps.0, it.rest.ok.0) in
    let all : length ys ≡ length tables = omega (arith, none, length-append ys (into_iter_items it), ap length have.all) in
    record {
      value = λ h end.
          let count : length ys ≡ length h.opened.tables = all ∙ sym (length-map tables f) ∙ end.count in
          record { count = have.count ∙ count; each = λ j low. have.each h end j (omega (arith, low, count)) };
    }
