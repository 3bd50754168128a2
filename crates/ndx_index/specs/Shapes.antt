-- How the pages of an index are filled.
use Rattle.std.specs.Prelude.{◌≡◌, ℕ, ◌+◌, ◌*◌, ◌≤◌}
use Rattle.key_expr.specs.declared.format.TheConstants.{MAX_KEY_BYTES}
use Rattle.ndx_index.specs.declared.format.TheConstants.{MAX_RECORDS_BYTES}
use Rattle.ndx_index.specs.Image.{record_size, page_keys}

-- the bytes of a key record and the most key records of a page, for keys of this length
pub record IsShape (key_len size keys : ℕ) : Type 0 where
  pub key_some : 1 ≤ key_len
  pub key_short : key_len ≤ MAX_KEY_BYTES
  pub size_is : size ≡ record_size key_len
  pub keys_are : keys ≡ page_keys key_len
  pub room : key_len + 8 ≤ size
  pub bounded : size ≤ MAX_RECORDS_BYTES
  pub some : 2 ≤ keys
  pub count_bounded : keys ≤ MAX_RECORDS_BYTES
  pub fits : keys * size ≤ MAX_RECORDS_BYTES
