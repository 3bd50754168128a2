use Rattle.std.proofs.Common.{◌≡◌, ◌+◌, ℕ, suc, length, refl, ap, sym, ◌∙◌, arith}
use Rattle.std.specs.Prelude.{flat_map, slice_index}
use Rattle.byte_io.specs.Writer.{more}
use Rattle.byte_io.specs.Laws.Puts.{more_left, more_nil}
use Rattle.ndx_index.specs.Image.{inner_page}
use Rattle.ndx_index.specs.Levels.{level}
use Rattle.ndx_index.proofs.TreeBytes.{above_leaves, is_level, level_and_above, none_above}
use Rattle.ndx_index.specs.ListParts.{listed}
use Rattle.ndx_index.proofs.write.inner.put_inner_pages.Goals as goal

pub loop-height-init : goal.loop-height-init
loop-height-init g c =
    let plan = c.args.plan.now in
    record {
      same = refl;
      left = ap (λ qs. more c.args.out.now.wanted (flat_map (inner_page plan.shape.size) qs)) (above_leaves plan.shape.keys (listed plan.pairs));
      first = refl;
    }

pub put_level-requires-clause-level : goal.put_level-requires-clause-level
put_level-requires-clause-level g c =
    let plan = c.args.plan.now in
    is_level plan.shape.keys (listed plan.pairs) c.loop-height.height plan.height c.loop-height.first _ plan.root plan.sizes (omega arith) plan.below plan.top c.loop-height.invariant.first refl

pub overflow_cast-first : goal.overflow_cast-first
overflow_cast-first g c =
    let plan = c.args.plan.now in
    let at = is_level plan.shape.keys (listed plan.pairs) c.loop-height.height plan.height c.loop-height.first _ plan.root plan.sizes (omega arith) plan.below plan.top c.loop-height.invariant.first refl in
    omega (arith, at.numbered)

pub overflow_add-first : goal.overflow_add-first
overflow_add-first g c =
    let plan = c.args.plan.now in
    let at = is_level plan.shape.keys (listed plan.pairs) c.loop-height.height plan.height c.loop-height.first _ plan.root plan.sizes (omega arith) plan.below plan.top c.loop-height.invariant.first refl in
    omega (arith, at.numbered)

pub loop-height-preserved : goal.loop-height-preserved
loop-height-preserved g c =
    let plan = c.args.plan.now in
    let k : ℕ = plan.shape.keys in
    let h : ℕ = c.loop-height.height in
    let at = is_level k (listed plan.pairs) h plan.height c.loop-height.first _ plan.root plan.sizes (omega arith) plan.below plan.top c.loop-height.invariant.first refl in
    let next : h + 1 ≡ suc h = omega arith in
    rw (next, c.put_level.ensures.put.1) (record {
      same = c.put_level.ensures.put.0 ∙ c.loop-height.invariant.same;
      left = more_left _ _ _ _ _ (level_and_above plan.shape.size k (listed plan.pairs) h plan.shape.fits.some (plan.below.several h (omega arith))) c.loop-height.invariant.left;
      first = ap (λ (n : ℕ). n + slice_index plan.sizes h) at.first_is ∙ ap (λ (n : ℕ). (level k (listed plan.pairs) h).first + n) at.count_is;
    })

pub returns : goal.returns
returns g c =
    let plan = c.args.plan.now in
    let k : ℕ = plan.shape.keys in
    let h : ℕ = c.loop-height.height in
    let end : h ≡ plan.height = omega arith in
    let one : length (level k (listed plan.pairs) h).pages ≡ 1 = rw end plan.top.one in
    let none = none_above plan.shape.size k (listed plan.pairs) h one in
    let w = c.loop-height.out.wanted in
    record { put = (c.loop-height.invariant.same, sym (ap (λ bytes. more w bytes) none ∙ more_nil w) ∙ c.loop-height.invariant.left) }
