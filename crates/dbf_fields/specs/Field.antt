-- What a field may be, by the published layout of DBF files.
use Rattle.std.specs.Prelude.{ℕ, Bool, ◌&&◌, ◌||◌, ◌==◌, nat_lt, List, map, sum_by, bytes_eq, if◌then◌else◌}
use Rattle.std.specs.List.{list_any}
use Rattle.std.specs.Char.{to_ascii_uppercase}
use Rattle.std.specs.Int.{is_in_range}
use Rattle.dbf_fields.specs.declared.field.Field.{Field}
use Rattle.dbf_fields.specs.declared.format.TheConstants.{CHARACTER, NUMBER, LOGICAL, DATE, MEMO, MAX_CHARACTER_WIDTH, MAX_NUMBER_WIDTH, DATE_WIDTH, MEMO_WIDTH}

-- the letters of kinds that a table may have
abbrev pub is_kind : ℕ → Bool
is_kind k = (((k == CHARACTER || k == NUMBER) || k == LOGICAL) || k == DATE) || k == MEMO

-- the width is one that the kind may have, and a number has no decimals or fewer than its width
abbrev pub has_width : Field → Bool
has_width f =
    if f.kind == CHARACTER then is_in_range 1 MAX_CHARACTER_WIDTH f.width else
    (if f.kind == NUMBER then is_in_range 1 MAX_NUMBER_WIDTH f.width && (f.decimals == 0 || nat_lt f.decimals f.width) else
    (if f.kind == LOGICAL then f.width == 1 else
    (if f.kind == DATE then f.width == DATE_WIDTH else
    f.width == MEMO_WIDTH)))

-- the field as a schema keeps it: the name in capitals, and no decimals but for a number
abbrev pub folded : Field → Field
folded f = record {
  name = map to_ascii_uppercase f.name;
  kind = f.kind;
  width = f.width;
  decimals = if f.kind == NUMBER then f.decimals else 0;
}

-- one of the fields has the name
abbrev pub has_name : List Field → List ℕ → Bool
has_name fields name = list_any (λ f. bytes_eq f.name name) fields

-- the bytes of the fields' cells together
abbrev pub widths : List Field → ℕ
widths fields = sum_by (λ f. f.width) fields
