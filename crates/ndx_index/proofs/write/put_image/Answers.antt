use Rattle.std.proofs.Common.{◌+◌, ◌≤◌, ℕ, ◌∙◌, subst}
use Rattle.byte_io.specs.Laws.Puts.{more_all_three}
use Rattle.ndx_index.specs.Image.{page_keys}
use Rattle.ndx_index.specs.Levels.{AreSizes, IsRootLevel}
use Rattle.ndx_index.proofs.TreeBytes.{image_parts, pages_counted}
use Rattle.ndx_index.specs.ListParts.{listed}
use Rattle.ndx_index.proofs.write.put_image.Goals as goal

pub returns-clause-put : goal.returns-clause-put
returns-clause-put g c =
    let plan = c.args.plan.now in
    let shape = plan.shape in
    let some : 2 ≤ page_keys shape.key_len = subst (λ (k : ℕ). 2 ≤ k) shape.fits.keys_are shape.fits.some in
    let below = subst (λ k. AreSizes k (listed plan.pairs) plan.height plan.sizes) shape.fits.keys_are plan.below in
    let top = subst (λ k. IsRootLevel k (listed plan.pairs) plan.height plan.root) shape.fits.keys_are plan.top in
    let whole = image_parts c.args.text.now shape.key_len (plan.root + 1) (listed plan.pairs) (pages_counted shape.key_len (listed plan.pairs) plan.height plan.root plan.sizes some below top) in (
      c.put_inner_pages.ensures.put.0 ∙ (c.put_leaves.ensures.put.0 ∙ c.put_header.ensures.put.0),
      rw (c.put_inner_pages.ensures.put.1, c.put_leaves.ensures.put.1, c.put_header.ensures.put.1, shape.fits.keys_are, shape.fits.size_is) (more_all_three _ _ _ _ _ whole),
    )
