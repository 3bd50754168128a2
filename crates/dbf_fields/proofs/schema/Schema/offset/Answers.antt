use Rattle.std.proofs.Common.{◌≡◌, ◌+◌, ◌<◌, ◌≤◌, ℕ, List, length, get_or, ap, ◌∙◌, arith}
use Rattle.dbf_fields.specs.Field.{widths}
use Rattle.dbf_fields.specs.Layout.{offset_of, width_of}
use Rattle.dbf_fields.proofs.SchemaLaws.{schema_widths}
use Rattle.dbf_fields.proofs.LayoutLaws.{length-offsets_from, offset_at, width_within}
use Rattle.dbf_fields.proofs.schema.Schema.offset.Goals as goal

pub index-requires : goal.index-requires
index-requires c =
    let inside = c.self.inside in
    let index : c.args.index < length inside.fields.items = rw (← c.self.view_is) at c.requires.inside in
    let long = ap (length {A = ℕ}) c.self.invariant.offsets_are in
    omega (arith, index, long, length-offsets_from 1 inside.fields.items, inside.offsets.ok.0)

-- what the schema keeps is the offset, and the cell ends within the record
kept : (c : goal.After-from)
    → (c.from.result ≡ offset_of c.self.inside.fields.items c.args.index) × (c.from.result + width_of c.self.inside.fields.items c.args.index ≤ 1 + widths c.self.inside.fields.items)
kept c =
    let fields = c.self.inside.fields.items in
    let index : c.args.index < length fields = rw (← c.self.view_is) at c.requires.inside in
    let d = c.index.result.now in
    let value = c.from.ensures ∙ c.index.ensures ∙ ap (λ (l : List ℕ). get_or l c.args.index d) c.self.invariant.offsets_are ∙ offset_at fields 1 c.args.index d index in
    (value, rw value (width_within fields c.args.index index))

pub returns-clause-value : goal.returns-clause-value
returns-clause-value c = rw (← c.self.view_is) (kept c).0

pub returns-clause-within : goal.returns-clause-within
returns-clause-within c = rw (← c.self.view_is) (kept c).1

pub returns-clause-bounded : goal.returns-clause-bounded
returns-clause-bounded c = omega (arith, (kept c).1, schema_widths _ c.self.invariant.schema)
