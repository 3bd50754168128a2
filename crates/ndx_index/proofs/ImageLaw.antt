-- The file that is written of an index is an index file with its pairs, and no other.
use Rattle.std.proofs.Common.{◌≡◌, ◌≢◌, ℕ, ◌+◌, ◌-◌, ◌*◌, ◌/◌, ◌^◌, ◌<◌, ◌≤◌, true, List, [], ◌∷◌, ◌++◌, length, map, replicate, refl, ap, sym, ◌∙◌, subst, arith, None}
use Rattle.std.specs.Prelude.{slice_index, slice_range, nat_le}
use Rattle.std.specs.Int.{is_in_range}
use Rattle.std.proofs.lemmas.Bool.Decides.{nat_tests}
use Rattle.ndx_index.specs.declared.read.header.Header.{Header}
use Rattle.std.specs.List.{AllByRecursion}
use Rattle.std.proofs.Math.Nat.{div-mul-le_self, le-div_iff_mul-le}
use Rattle.std.proofs.lemmas.List.{take_at, length-append, length-replicate, length-map}
use Rattle.key_expr.specs.declared.format.TheConstants.{MAX_EXPRESSION_BYTES, MAX_KEY_BYTES}
use Rattle.ndx_index.specs.declared.format.TheConstants.{EXPRESSION_OFFSET, KEY_LENGTH_OFFSET, KEY_TYPE_OFFSET, MAX_PAIRS, MAX_RECORDS_BYTES, PAGE, RECORD_SIZE_OFFSET, UNIQUE_FLAG_OFFSET}
use Rattle.byteorder.specs.Endian.{little_bytes}
use Rattle.byteorder.specs.Numbers.{little_number-reads_back}
use Rattle.ndx_index.specs.declared.pair.Pair.{Pair}
use Rattle.ndx_index.specs.declared.read.page.PageLayout.{PageLayout}
use Rattle.ndx_index.specs.Pages.{u32_at}
use Rattle.ndx_index.specs.NdxTree.{Trees, IsFileTree}
use Rattle.ndx_index.specs.Header.{header_refusal, header_page_tests, ndx_header, u16_at, before_zero, trimmed_end, expression, IsIndex}
use Rattle.ndx_index.proofs.Texts.{before_zeros, no_zero}
use Rattle.ndx_index.specs.Image.{ChildEntry, child_entries, last_key, leaves, inner_pages, leaf_page, inner_page, filled_page, header_page, image_pages, ndx_image, record_size, page_keys, IsWritable}
use Rattle.ndx_index.proofs.Grouped.{joined, groups-join, leaf_groups, count_one, HasSize, all_groups, short_groups}
use Rattle.ndx_index.specs.Laws.Lists.{all_weaker, all_zip}
use Rattle.ndx_index.proofs.PageBytes.{Fits, length-filled_page, pairs_short}
use Rattle.ndx_index.proofs.ReadBack.{pages_at, at_append, numbers, length-child_entries, once_distinct, child_entries_run, LevelTrees, levels_tree, levels_long, leaves_long, leaf_trees, all_both, child_entries_fit, last_of_child_entries}

record Sizes (key_len : ℕ) : Type 0 where
  room : key_len + 8 ≤ record_size key_len
  least : 4 ≤ page_keys key_len
  fit : page_keys key_len * record_size key_len ≤ MAX_RECORDS_BYTES
  most : page_keys key_len ≤ MAX_RECORDS_BYTES

sizes_of : (key_len : ℕ) → key_len ≤ MAX_KEY_BYTES → Sizes key_len
sizes_of key_len h =
    let q : ℕ = (key_len + 11) / 4 in
    let low : key_len + 8 ≤ record_size key_len = omega arith in
    let high : record_size key_len ≤ 108 = omega arith in
    let product : page_keys key_len * record_size key_len ≤ MAX_RECORDS_BYTES = div-mul-le_self MAX_RECORDS_BYTES (record_size key_len) in
    let least : 4 ≤ page_keys key_len = (le-div_iff_mul-le {k = record_size key_len} {x = 4} {y = MAX_RECORDS_BYTES} (omega arith)).1 (omega arith) in
    record { room = low; least = least; fit = product; most = most (page_keys key_len) (record_size key_len) (omega arith) product }
  where
    most : (a b : ℕ) → 1 ≤ b → a * b ≤ MAX_RECORDS_BYTES → a ≤ MAX_RECORDS_BYTES
    most a b some h = grind arith

pub leaves_joined : (k : ℕ) (pairs : List Pair) → 1 ≤ k → joined (leaves k pairs) ≡ pairs
leaves_joined k [] h = refl
leaves_joined k (p ∷ ps) h = groups-join (λ left. k) (length (p ∷ ps)) (p ∷ ps) (omega arith) (λ n. h)

leaves_sized : (k : ℕ) (pairs : List Pair) → 1 ≤ k → AllByRecursion (HasSize 0 k) (leaves k pairs)
leaves_sized k [] h = (record { low = omega arith; high = omega arith }, tt)
leaves_sized k (p ∷ ps) h = all_weaker (HasSize 1 k) (HasSize 0 k) (λ g size. record { low = omega arith; high = size.high }) (leaves k (p ∷ ps)) (leaf_groups k (length (p ∷ ps)) (p ∷ ps) h)

pub leaves_some : (k : ℕ) (pairs : List Pair) → 1 ≤ length (leaves k pairs)
leaves_some k [] = omega arith
leaves_some k (p ∷ ps) = omega arith

pub leaves_few : (k : ℕ) (pairs : List Pair) → 1 ≤ k → length (leaves k pairs) ≤ length pairs + 1
leaves_few k [] h = omega arith
leaves_few k (p ∷ ps) h =
    let gs : List (List Pair) = leaves k (p ∷ ps) in
    let total : length (joined gs) ≡ length (p ∷ ps) = ap (λ (xs : List Pair). length xs) (leaves_joined k (p ∷ ps) h) in
    omega (arith, count_one k gs (leaf_groups k (length (p ∷ ps)) (p ∷ ps) h))

length-header : (text : List ℕ) (key_len n : ℕ) → length text ≤ MAX_EXPRESSION_BYTES → length (header_page text key_len n) ≡ PAGE
unfolding header_page
length-header text key_len n h = length-filled_page _ (omega arith)

header_accepted : (bytes : List ℕ) (key_len size : ℕ) → PAGE ≤ length bytes → u16_at bytes KEY_TYPE_OFFSET ≡ 0 → slice_index bytes UNIQUE_FLAG_OFFSET ≡ 0 → u16_at bytes KEY_LENGTH_OFFSET ≡ key_len → u16_at bytes RECORD_SIZE_OFFSET ≡ size
    → 1 ≤ key_len → key_len ≤ MAX_KEY_BYTES → key_len + 8 ≤ size → size ≤ MAX_RECORDS_BYTES → header_refusal bytes ≡ None
unfolding header_page_tests
header_accepted bytes key_len size long kind unique key_is size_is some count_bounded room bounded =
    let a : nat_le PAGE (length bytes) ≡ true = grind (arith, nat_tests) in
    let b : is_in_range 1 MAX_KEY_BYTES key_len ≡ true = grind (arith, nat_tests) in
    let c : is_in_range (key_len + 8) MAX_RECORDS_BYTES size ≡ true = grind (arith, nat_tests) in
    rw (a, kind, unique, key_is, size_is, b, c) refl

header_parts : (text rest : List ℕ) (key_len n : ℕ) → key_len ≤ MAX_KEY_BYTES → record_size key_len ≤ MAX_RECORDS_BYTES → n < 2 ^ 32
    → (u16_at (header_page text key_len n ++ rest) 16 ≡ 0) × (slice_index (header_page text key_len n ++ rest) 23 ≡ 0) × (u16_at (header_page text key_len n ++ rest) 12 ≡ key_len)
    × (u16_at (header_page text key_len n ++ rest) 18 ≡ record_size key_len) × (u32_at (header_page text key_len n ++ rest) 0 ≡ n - 1)
unfolding header_page u16_at u32_at filled_page
header_parts text rest key_len n count_bounded bounded fits =
    (refl, refl, little_number-reads_back 2 key_len [] (omega arith), little_number-reads_back 2 (record_size key_len) [] (omega arith), little_number-reads_back 4 (n - 1) [] (omega arith))

header_reads : (text rest : List ℕ) (key_len n : ℕ) → length text ≤ MAX_EXPRESSION_BYTES → 1 ≤ key_len → key_len ≤ MAX_KEY_BYTES → Sizes key_len → record_size key_len ≤ MAX_RECORDS_BYTES → n < 2 ^ 32
    → (header_refusal (header_page text key_len n ++ rest) ≡ None) × (ndx_header (header_page text key_len n ++ rest) ≡ record { layout = record { key_len = key_len; size = record_size key_len }; root = n - 1 })
unfolding ndx_header
header_reads text rest key_len n short_text some count_bounded sizes bounded fits =
    let bytes : List ℕ = header_page text key_len n ++ rest in
    let long : PAGE ≤ length bytes = omega (arith, length-append (header_page text key_len n) rest, length-header text key_len n short_text) in
    let parts = header_parts text rest key_len n count_bounded bounded fits in
    (header_accepted bytes key_len (record_size key_len) long parts.0 parts.1 parts.2 parts.3 some count_bounded sizes.room bounded, rw (parts.2, parts.3, parts.4) refl)

-- the text and the zeros after it
text_at : (text rest : List ℕ) (key_len n : ℕ) → length text ≤ MAX_EXPRESSION_BYTES → slice_range (header_page text key_len n ++ rest) EXPRESSION_OFFSET PAGE ≡ text ++ replicate (MAX_EXPRESSION_BYTES - length text) 0
unfolding header_page filled_page
text_at text rest key_len n count_bounded =
    let front : List ℕ = little_bytes 4 (n - 1) ++ (little_bytes 4 n ++ (replicate 4 0 ++ (little_bytes 2 key_len ++ (little_bytes 2 (page_keys key_len) ++ (0 ∷ 0 ∷ (little_bytes 2 (record_size key_len) ++ (0 ∷ 0 ∷ 0 ∷ 0 ∷ text))))))) in
    let long : PAGE - length front ≡ MAX_EXPRESSION_BYTES - length text = omega arith in
    let zs : List ℕ = replicate (MAX_EXPRESSION_BYTES - length text) 0 in
    let whole : length (text ++ zs) ≡ MAX_EXPRESSION_BYTES = omega (arith, length-append text zs, length-replicate {A = ℕ} (MAX_EXPRESSION_BYTES - length text) 0) in
    rw long (take_at (text ++ zs) rest MAX_EXPRESSION_BYTES whole)

text_reads : (text rest : List ℕ) (key_len n : ℕ) → length text ≤ MAX_EXPRESSION_BYTES → expression (header_page text key_len n ++ rest) ≡ trimmed_end (before_zero text)
text_reads text rest key_len n count_bounded =
    ap (λ (bytes : List ℕ). trimmed_end (before_zero bytes)) (text_at text rest key_len n count_bounded) ∙ ap (λ (bytes : List ℕ). trimmed_end bytes) (before_zeros text (MAX_EXPRESSION_BYTES - length text))

pub read_back : (text : List ℕ) (key_len : ℕ) (pairs : List Pair) → IsWritable text key_len pairs → IsIndex (ndx_image text key_len pairs) (trimmed_end (before_zero text)) key_len pairs
read_back text key_len pairs w =
    let size : ℕ = record_size key_len in
    let k : ℕ = page_keys key_len in
    let s : PageLayout = record { key_len = key_len; size = size } in
    let sizes = sizes_of key_len w.key_short in
    let gs : List (List Pair) = leaves k pairs in
    let m : ℕ = length gs in
    let ts : List ChildEntry = child_entries last_key 1 gs in
    let above : List (List ChildEntry) = inner_pages k pairs in
    let leaf_pages : List (List ℕ) = map (leaf_page size) gs in
    let upper_pages : List (List ℕ) = map (inner_page size) above in
    let pages : List (List ℕ) = image_pages key_len pairs in
    let header : List ℕ = header_page text key_len (1 + length pages) in
    let bytes : List ℕ = ndx_image text key_len pairs in
    let one_key : 1 ≤ k = omega (arith, sizes.least) in
    let join : joined gs ≡ pairs = leaves_joined k pairs one_key in
    let sized = leaves_sized k pairs one_key in
    let count_bounded : m ≤ length pairs + 1 = leaves_few k pairs one_key in
    let some : 1 ≤ m = leaves_some k pairs in
    let each_fits = all_weaker _ (Fits s) (λ p h. record { long = h.0; number = h.1 }) pairs w.each in
    let fits = all_groups (Fits s) gs (rw join each_fits) in
    let long_ts : length ts ≡ m = length-child_entries last_key 1 gs in
    let children = child_entries_fit s last_key 1 gs (omega arith) (omega (arith, w.count_bounded)) (short_groups (λ p. p.key) size gs (omega (arith, sizes.room)) (rw join (pairs_short s pairs sizes.room each_fits))) in
    let up = levels_long s m k (m + 1) ts (omega arith) (omega (arith, sizes.least)) (omega (arith, sizes.room)) sizes.fit (omega (arith, w.count_bounded)) children in
    let leaf_count : length leaf_pages ≡ m = length-map gs (leaf_page size) in
    let upper_count : length upper_pages ≡ length above = length-map above (inner_page size) in
    let count : length pages ≡ m + length above = omega (arith, length-append leaf_pages upper_pages) in
    let long = all_both s (λ p. length p ≡ PAGE) leaf_pages upper_pages (leaves_long s k gs sizes.room sizes.fit sized fits) up.long in
    let at = pages_at bytes header pages 1 refl (length-header text key_len (1 + length pages) w.text_short) long in
    let parts = at_append bytes 1 (m + 1) leaf_pages upper_pages (omega arith) at in
    let bottom = leaf_trees s bytes k 1 gs (omega arith) sizes.room sizes.fit sizes.most sized fits parts.0 in
    let run = child_entries_run last_key 1 (m + 1) gs (omega arith) in
    let level : LevelTrees s bytes (m + 1) ts pairs = record { pages = numbers ts; tree = subst (λ ps. Trees s bytes (numbers ts) (numbers ts) ps) join bottom; once = run.once; under = run.over } in
    let rooted = levels_tree s bytes m k (m + 1) (length pages) ts pairs (omega arith) (omega (arith, sizes.least)) (omega (arith, sizes.room)) sizes.fit sizes.most (omega arith) (omega arith)
    (omega (arith, w.count_bounded)) children (last_of_child_entries last_key 1 gs some ∙ add_one m) (omega arith) parts.1 level in
    let reads = header_reads text (joined pages) key_len (1 + length pages) w.text_short w.key_some w.key_short sizes (omega (arith, w.key_short)) (omega (arith, w.count_bounded, up.count_bounded)) in
    let header_is : ndx_header bytes ≡ record { layout = s; root = length pages } = reads.1 ∙ ap (λ r. record { layout = s; root = r }) (one_less (length pages)) in
    record {
      header_is = reads.0;
      text_is = sym (text_reads text (joined pages) key_len (1 + length pages) w.text_short);
      length_is = ap (λ (h : Header). h.layout.key_len) (sym header_is);
      pages = rooted.pages;
      tree = subst (λ (h : Header). IsFileTree h.layout bytes h.root rooted.pages pairs) (sym header_is) (record { tree = rooted.tree; apart = once_distinct rooted.pages rooted.once });
    }
  where
    add_one : (n : ℕ) → 1 + n ≡ n + 1
    add_one n = omega arith

    one_less : (n : ℕ) → 1 + n - 1 ≡ n
    one_less n = omega arith

-- a text without a zero is read whole, but for the blanks at its end
pub read_back_plain : (text : List ℕ) (key_len : ℕ) (pairs : List Pair) → IsWritable text key_len pairs → AllByRecursion (λ b. b ≢ 0) text → IsIndex (ndx_image text key_len pairs) (trimmed_end text) key_len pairs
read_back_plain text key_len pairs w h = subst (λ read. IsIndex (ndx_image text key_len pairs) (trimmed_end read) key_len pairs) (no_zero text h) (read_back text key_len pairs w)

pub writable : (text : List ℕ) (key_len : ℕ) (pairs : List Pair) → length text ≤ MAX_EXPRESSION_BYTES → 1 ≤ key_len → key_len ≤ MAX_KEY_BYTES → length pairs ≤ MAX_PAIRS → AllByRecursion (λ p. length p.key ≡ key_len) pairs
    → AllByRecursion (λ p. p.number < 2 ^ 32) pairs → IsWritable text key_len pairs
writable text key_len pairs t some short count_bounded keys numbers = record {
  text_short = t;
  key_some = some;
  key_short = short;
  count_bounded = count_bounded;
  each = all_zip (λ p. length p.key ≡ key_len) (λ p. p.number < 2 ^ 32) pairs keys numbers;
}

-- what is written of the pairs of a key expression reads back
pub written_reads : (text : List ℕ) (key_len n : ℕ) (pairs : List Pair) → key_len ≡ n → length text ≤ MAX_EXPRESSION_BYTES → 1 ≤ key_len → key_len ≤ MAX_KEY_BYTES → length pairs ≤ MAX_PAIRS → AllByRecursion (λ p. length p.key ≡ n) pairs
    → AllByRecursion (λ p. p.number < 2 ^ 32) pairs → AllByRecursion (λ b. b ≢ 0) text → IsIndex (ndx_image text n pairs) (trimmed_end text) n pairs
written_reads text key_len n pairs same t some few_bytes count_bounded keys numbers plain =
    read_back_plain text n pairs (writable text n pairs t (omega arith) (omega arith) count_bounded keys numbers) plain
