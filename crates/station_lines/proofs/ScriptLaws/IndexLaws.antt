-- What the words of INDEX ON say is what the reader makes of them.
use Rattle.std.proofs.Common.{◌≡◌, ℕ, List, [], ◌∷◌, Bool, true, false, not, cond, ◌||◌, reverse, Option, Some, refl, ap, ◌∙◌, sym, subst, arith}
use Rattle.std.specs.Prelude.{codes}
use Rattle.std.proofs.lemmas.Bool.{false≢true, and_parts}
use Rattle.catalogue_core.specs.declared.command.Command.TheVariants as command
use Rattle.station_lines.specs.declared.script.line.Line.TheVariants.{Run, Blank}
use Rattle.station_lines.specs.Script.Words.{begins_word, HasWords, begins_with_asterisk}
use Rattle.station_lines.specs.Script.Parts.{is_keyword, name_in, is_phrase}
use Rattle.station_lines.specs.Script.Meaning.{Says}
use Rattle.station_lines.specs.Script.Reading.{bad, with_, is_empty, index_line, after_on, after_index, read}
use Rattle.station_lines.proofs.ScriptLaws.WordLaws.{IsCutAt, cut_off}
use Rattle.station_lines.proofs.ScriptLaws.PartLaws.{keyword_solid, keyword_word, name_solid, name_word}
use Rattle.station_lines.proofs.ScriptLaws.EndLaws.{after_on_is}
use Rattle.station_lines.proofs.ScriptLaws.TextLaws.{chosen, passed}
use Rattle.station_lines.proofs.ScriptLaws.FoundLaws.{first_keyword, read_from, some_word}

-- INDEX and ON are cut off
read_index : (line a rest b more : List ℕ) → IsCutAt line a rest → is_keyword (codes "INDEX") a ≡ true → IsCutAt rest b more → is_keyword (codes "ON") b ≡ true
    → read line ≡ after_on more
read_index line a rest b more c index d on =
    let w = first_keyword (codes "INDEX") a (omega arith) refl refl refl index in
    (λ i. read_from (c.first i) (c.after i))
    ∙ passed (is_empty a || begins_with_asterisk a) Blank _ w.no_remark
    ∙ chosen (is_keyword (codes "INDEX") a) (after_index rest) _ index
    ∙ (λ i. cond (is_keyword (codes "ON") (d.first i)) (after_on (d.after i)) bad)
    ∙ chosen (is_keyword (codes "ON") b) (after_on more) bad on

phrase_some : (e : List ℕ) → is_phrase e ≡ true → is_empty e ≡ false
phrase_some e h = some_word e (and_parts (begins_word e) (begins_word (reverse e)) h).0

neither : (p q : Bool) → p ≡ false → q ≡ true → (p || not q) ≡ false
neither false true e f = refl
neither false false e f = absurd (false≢true f)
neither true q e f = absurd (false≢true (sym e))

index_line_is : (e t n name : List ℕ) → is_phrase e ≡ true → is_keyword (codes "TO") t ≡ true → name_in n ≡ Some name → index_line e t n ≡ Run (command.IndexOn e name)
index_line_is e t n name phrase to is =
    passed (is_empty e || not (is_keyword (codes "TO") t)) bad _ (neither (is_empty e) (is_keyword (codes "TO") t) (phrase_some e phrase) to)
    ∙ ap (λ (o : Option (List ℕ)). with_ o (λ n. Run (command.IndexOn e n))) is

pub line_index : (line : List ℕ) (words : List (List ℕ)) (e name : List ℕ) → HasWords words line → Says words (Run (command.IndexOn e name)) → read line ≡ Run (command.IndexOn e name)
line_index line [] e name w h = absurd h
line_index line (a ∷ []) e name w h = absurd h.1
line_index line (a ∷ b ∷ []) e name w h = absurd h.1.1
line_index line (a ∷ b ∷ c ∷ []) e name w h = absurd h.1.1.1
line_index line (a ∷ b ∷ c ∷ d ∷ []) e name w h = absurd h.1.1.1.1
line_index line (a ∷ b ∷ c ∷ d ∷ f ∷ g ∷ ws) e name w h = absurd h.1.1.1.1.1
line_index line (a ∷ b ∷ c ∷ d ∷ f ∷ []) e name w h =
    let v = w.5 in
    let on : is_keyword (codes "ON") b ≡ true = h.1.0 in
    let same : c ≡ e = h.1.1.0.0 in
    let phrase : is_phrase e ≡ true = h.1.1.0.1 in
    let to : is_keyword (codes "TO") d ≡ true = h.1.1.1.0 in
    let named : name_in f ≡ Some name = h.1.1.1.1.0 in
    let first = cut_off line w.0 a w.1 w.2 w.3 w.4 (first_keyword (codes "INDEX") a (omega arith) refl refl refl h.0).cut in
    let second = cut_off w.1 v.0 b v.1 v.2 v.3 v.4 (keyword_word (codes "ON") b (omega arith) refl refl on) in
    let three : HasWords (e ∷ d ∷ f ∷ []) v.1 = subst (λ (xs : List ℕ). HasWords (xs ∷ d ∷ f ∷ []) v.1) same v.5 in
    read_index line a w.1 b v.1 first h.0 second on
    ∙ after_on_is v.1 e d f three phrase (keyword_solid (codes "TO") d refl refl to) (keyword_word (codes "TO") d (omega arith) refl refl to).start
    (name_solid f name named) (name_word f name named).start
    ∙ index_line_is e d f name phrase to named
