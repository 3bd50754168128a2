use Rattle.std.proofs.Common.{◌∙◌}
use Rattle.ndx_index.proofs.Writing.{header_puts}
use Rattle.ndx_index.proofs.write.put_header.Goals as goal

pub returns : goal.returns
returns g c =
    let shape = c.args.shape in
    record {
      put = (
        c.put_zeros-4.ensures.put.0 ∙ (c.put.ensures.put.0 ∙ (c.put_zeros-3.ensures.put.0 ∙ (c.put_u16-3.ensures.put.0 ∙ (c.put_zeros-2.ensures.put.0 ∙ (c.put_u16-2.ensures.put.0 ∙ (c.put_u16.ensures.put.0 ∙ (c.put_zeros.ensures.put.0 ∙ (c.put_u32-2.ensures.put.0 ∙ c.put_u32.ensures.put.0)))))))),
        rw (c.put_zeros-4.ensures.put.1, c.put.ensures.put.1, c.put_zeros-3.ensures.put.1, c.put_u16-3.ensures.put.1, c.put_zeros-2.ensures.put.1, c.put_u16-2.ensures.put.1, c.put_u16.ensures.put.1, c.put_zeros.ensures.put.1, c.put_u32-2.ensures.put.1, c.put_u32.ensures.put.1, shape.fits.keys_are, shape.fits.size_is)
            (header_puts c.args.out.now.wanted c.args.text.now shape.key_len c.args.root),
      );
    }
