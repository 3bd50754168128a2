-- What a page of an index file holds.
use Rattle.std.specs.Prelude.{◌≤◌, ℕ, zero, suc, ◌+◌, ◌*◌, Bool, not, false, ◌||◌, ◌&&◌, List, [], ◌∷◌, ◌++◌, length, drop, slice_range, nat_lt, nat_le, ◌==◌, if◌then◌else◌, Option, Some, None, Result, Ok, Err}
use Rattle.byteorder.specs.Endian.{little_number}
use Rattle.dbf_fields.specs.Faults.{first_fault}
use Rattle.ndx_index.specs.declared.pair.Pair.{Pair}
use Rattle.ndx_index.specs.declared.read.page.PageLayout.{PageLayout}
use Rattle.ndx_index.specs.declared.fault.NdxFault.{NdxFault}
use Rattle.key_expr.specs.declared.format.TheConstants.{MAX_KEY_BYTES}
use Rattle.ndx_index.specs.declared.format.TheConstants.{PAGE, MAX_RECORDS_BYTES}
use Rattle.ndx_index.specs.declared.fault.NdxFault.TheVariants.{TooManyEntries, MixedPage}

-- a key record has a pointer, a number and a key of at most a hundred bytes, and fits a page
pub record IsPageLayout (s : PageLayout) : Type 0 where
  pub key_short : s.key_len ≤ MAX_KEY_BYTES
  pub key_fits : s.key_len + 8 ≤ s.size
  pub size_fits : s.size ≤ MAX_RECORDS_BYTES

-- the number in the four bytes at an offset
unfoldable pub u32_at : List ℕ → ℕ → ℕ
u32_at bytes at = little_number 4 (drop at bytes)

-- the child pointer of a page's key record
abbrev pub child : PageLayout → List ℕ → ℕ → ℕ
child s page i = u32_at page (4 + s.size * i)

-- the pair of a leaf's key record
abbrev pub leaf_pair : PageLayout → List ℕ → ℕ → Pair
leaf_pair s page i = record {
  key = slice_range page (12 + s.size * i) (12 + s.size * i + s.key_len);
  number = u32_at page (8 + s.size * i);
}

-- the first n child pointers
abbrev pub children : PageLayout → List ℕ → ℕ → List ℕ
children s page zero = []
children s page (suc n) = children s page n ++ child s page n ∷ []

-- the first n pairs
abbrev pub leaf_pairs : PageLayout → List ℕ → ℕ → List Pair
leaf_pairs s page zero = []
leaf_pairs s page (suc n) = leaf_pairs s page n ++ leaf_pair s page n ∷ []

-- one of the first n child pointers passes a test
abbrev pub some_child : (ℕ → Bool) → PageLayout → List ℕ → ℕ → Bool
some_child test s page zero = false
some_child test s page (suc n) = some_child test s page n || test (child s page n)

-- what a page holds: the pairs of a leaf, or the pages under an inner page
pub data Node : Type 0 where
  leaf : List Pair → Node
  inner : List ℕ → Node

abbrev pub is_null : ℕ → Bool
is_null p = p == 0

-- its first child pointer tells a page's kind
abbrev pub is_leaf : PageLayout → List ℕ → Bool
is_leaf s page = is_null (child s page 0)

-- each test of a leaf with n key records beside the fault that it is for,
abbrev pub leaf_tests : PageLayout → List ℕ → ℕ → List (Bool × NdxFault)
leaf_tests s page n =
    (nat_le (4 + n * s.size) PAGE, TooManyEntries)
    ∷ (not (some_child (λ p. not (is_null p)) s page n), MixedPage)
    ∷ []

-- of an inner page, which has one child more,
abbrev pub inner_tests : PageLayout → List ℕ → ℕ → List (Bool × NdxFault)
inner_tests s page n =
    (nat_le (8 + n * s.size) PAGE, TooManyEntries)
    ∷ (not (some_child is_null s page (n + 1)), MixedPage)
    ∷ []

-- the tests of any page of 512 bytes, a leaf or an inner one
unfoldable pub page_tests : PageLayout → List ℕ → List (Bool × NdxFault)
page_tests s page = if is_leaf s page then leaf_tests s page (u32_at page 0) else inner_tests s page (u32_at page 0)

-- what a page holds, where no test fails
unfoldable pub page_node : PageLayout → List ℕ → Node
page_node s page = if is_leaf s page then leaf (leaf_pairs s page (u32_at page 0)) else inner (children s page (u32_at page 0 + 1))

-- a value, or the fault in its place
abbrev pub value_or : {X F : Type 0} → X → Option F → Result X F
value_or x None = Ok x
value_or x (Some fault) = Err fault

-- what a page holds, or the first rule that it breaks
unfoldable pub node_of : PageLayout → List ℕ → Result Node NdxFault
node_of s page = value_or (page_node s page) (first_fault (page_tests s page))

-- the bytes of page p
abbrev pub page_of : List ℕ → ℕ → List ℕ
page_of bytes p = slice_range bytes (PAGE * p) (PAGE * p + PAGE)

-- page p is whole in the file, and isn't the header
abbrev pub is_page : List ℕ → ℕ → Bool
is_page bytes p = nat_lt 0 p && nat_le (PAGE * p + PAGE) (length bytes)
