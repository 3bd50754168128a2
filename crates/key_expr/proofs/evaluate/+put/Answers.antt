use Rattle.std.proofs.Common.{◌≡◌, ◌+◌, ◌≤◌, ℕ, List, length, drop, min, arith, ap, length-drop}
use Rattle.key_expr.specs.declared.format.TheConstants.{MAX_LENGTH}
use Rattle.dbf_fields.specs.declared.field.Field.{Field}
use Rattle.dbf_fields.specs.Field.{widths}
use Rattle.dbf_fields.specs.Layout.{cells_of}
use Rattle.key_expr.specs.declared.tree.Tree.{Tree}
use Rattle.key_expr.specs.Keys.{key, key_length}
use Rattle.key_expr.specs.TreeExpr.{expr_of}
use Rattle.key_expr.proofs.KeptRules.{kept_concat}
use Rattle.key_expr.proofs.KeyLengths.{key_length_is}
use Rattle.key_expr.proofs.Sizes.{parts}
use Rattle.key_expr.proofs.Windows.{put_both, room_for_second, no_more}
use Rattle.key_expr.proofs.evaluate.+put.Goals as goal

-- the length that is kept is that of the first part's key
long_first : (fields : List Field) (record_bytes : List ℕ) (tree first : Tree) (n : ℕ) → length record_bytes ≡ 1 + widths fields → tree ≡ first
    → n ≡ min MAX_LENGTH (key_length fields (expr_of first)) → n ≡ min MAX_LENGTH (length (key (cells_of fields (drop 1 record_bytes)) (expr_of tree)))
long_first fields record_bytes tree first n whole same long =
    let rest : widths fields ≤ length (drop 1 record_bytes) = omega (arith, whole, length-drop 1 record_bytes) in
    rw (same, key_length_is fields (drop 1 record_bytes) (expr_of first) rest) long

pub put-requires-then-after-gt0 : goal.put-requires-then-after-gt0
put-requires-then-after-gt0 t c =
    let kept = kept_concat c.args.schema.now (expr_of c.in-Concat.first.value) (expr_of c.in-Concat.second.value) (rw c.in-Concat.is at c.requires.kept) in
    let lengths = rw c.in-Concat.is at c.requires.lengths in
    let long = long_first c.args.schema.now c.args.record_bytes.now _ _ c.in-Concat.length c.requires.whole c.deref.ensures lengths.0 in
    let room = room_for_second c.args.window c.after-after.result _ _ _ _ long c.requires.near c.requires.room c.after-after.ensures.count c.put.ensures.value in
    let whole : parts (expr_of c.args.tree.now) ≡ 1 + parts (expr_of c.in-Concat.first.value) + parts (expr_of c.in-Concat.second.value) =
    ap (λ (x : Tree). parts (expr_of x)) c.in-Concat.is in
    (omega (arith, whole, ap (λ (x : Tree). parts (expr_of x)) c.deref-then-after-gt0.ensures, c.decreases), (c.requires.whole, (rw c.deref-then-after-gt0.ensures kept.1, (room, (omega (arith, c.requires.near, c.after-after.ensures.from), rw c.deref-then-after-gt0.ensures lengths.2)))))

pub returns-then-after-gt0 : goal.returns-then-after-gt0
returns-then-after-gt0 t c =
    let lengths = rw c.in-Concat.is at c.requires.lengths in
    let long = long_first c.args.schema.now c.args.record_bytes.now _ _ c.in-Concat.length c.requires.whole c.deref.ensures lengths.0 in
    record {
      value = rw (c.in-Concat.is, ← c.deref.ensures, ← c.deref-then-after-gt0.ensures)
          (put_both c.args.window c.after-after.result _ _ _ _ _ _ long c.requires.near c.requires.room
          c.after-after.ensures.from c.after-after.ensures.count c.after-after.ensures.upper c.put.ensures.value c.put-then-after-gt0.ensures.value);
    }

pub returns-else-after-gt0 : goal.returns-else-after-gt0
returns-else-after-gt0 t c =
    let lengths = rw c.in-Concat.is at c.requires.lengths in
    let long = long_first c.args.schema.now c.args.record_bytes.now _ _ c.in-Concat.length c.requires.whole c.deref.ensures lengths.0 in
    let second = key (cells_of c.args.schema.now (drop 1 c.args.record_bytes.now)) (expr_of c.in-Concat.second.value) in
    record {
      value = rw (c.in-Concat.is, ← c.deref.ensures)
          (put_both c.args.window c.after-after.result _ _ _ _ _ second long c.requires.near c.requires.room
          c.after-after.ensures.from c.after-after.ensures.count c.after-after.ensures.upper c.put.ensures.value
          (no_more c.after-after.result second _ c.if-after-gt0.false));
    }
