-- What `clap` has read of an option, as a row and as its getters see it.
use Rattle.std.proofs.Common.{◌≡◌, ◌∙◌, ap, sym, refl, ℕ, Bool, true, false, cond, List, [], ◌∷◌, map, find, bytes_eq, Option, Some, None, option_map, option_and_then, slice_get}
use Rattle.std.specs.Borrow.{Bor}
use Rattle.clap.specs.Facts.{Entry}
use Rattle.clap.specs.Matches.{first_value, one_text}
use Rattle.clap.specs.Values.{read_as}
use Rattle.clap.specs.Walk.{Row, first_of, one_of, row_of, row_text, rows_of}
use Rattle.clap.specs.declared.builder.value_parser.Reading.{Reading}
use Rattle.clap.specs.declared.parser.matches.Found.{Found}

-- the row of an id is that of its entry
row_found : (id : List ℕ) (es : List Entry) → find (λ r. bytes_eq r.id id) (map row_of es) ≡ option_map row_of (find (λ e. bytes_eq e.0.now id) es)
row_found id [] = refl
row_found id (e ∷ es) = by (bytes_eq e.0.now id) (row_found id es)
  where
    by : (b : Bool) → find (λ r. bytes_eq r.id id) (map row_of es) ≡ option_map row_of (find (λ e. bytes_eq e.0.now id) es)
        → cond b (Some (row_of e)) (find (λ r. bytes_eq r.id id) (map row_of es)) ≡ option_map row_of (cond b (Some e) (find (λ e. bytes_eq e.0.now id) es))
    by true h = refl
    by false h = h

first_text : (o : Option Entry) → option_and_then (λ a. option_map (λ s. s.now) (slice_get a.vals.items 0)) (option_map (λ e. e.1) o)
    ≡ option_and_then (λ r. slice_get r.values 0) (option_map row_of o)
first_text None = refl
first_text (Some e) = of e.1.vals.items
  where
    of : (vs : List (Bor (List ℕ))) → option_map (λ s. s.now) (slice_get vs 0) ≡ slice_get (map (λ s. s.now) vs) 0
    of [] = refl
    of (v ∷ vs) = refl

-- the value of an id is that of its row
pub first_row : (f : Found) (id : List ℕ) → first_value f id ≡ first_of id (rows_of f)
first_row f id =
    first_text (find (λ e. bytes_eq e.0.now id) f.entries.items)
    ∙ ap (option_and_then (λ (r : Row). slice_get r.values 0)) (sym (row_found id f.entries.items))

read_text : (o : Option Entry) → option_and_then (λ a. option_map (λ s. read_as a.reading s.now) (slice_get a.vals.items 0)) (option_map (λ e. e.1) o)
    ≡ option_and_then row_text (option_map row_of o)
read_text None = refl
read_text (Some e) = of e.1.reading e.1.vals.items
  where
    of : (how : Reading) (vs : List (Bor (List ℕ))) → option_map (λ s. read_as how s.now) (slice_get vs 0) ≡ option_map (read_as how) (slice_get (map (λ s. s.now) vs) 0)
    of how [] = refl
    of how (v ∷ vs) = refl

-- the text that is read of an id is that of its row
pub read_row : (f : Found) (id : List ℕ) → one_text f id ≡ one_of id (rows_of f)
read_row f id =
    read_text (find (λ e. bytes_eq e.0.now id) f.entries.items)
    ∙ ap (option_and_then row_text) (sym (row_found id f.entries.items))
