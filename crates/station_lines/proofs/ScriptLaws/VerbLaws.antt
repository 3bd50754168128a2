-- The first word of a command is one verb at most, and the reader finds it.
use Rattle.std.proofs.Common.{◌≡◌, ℕ, List, Bool, true, false, cond, ◌&&◌, ◌-◌, length, take, drop, Option, Some, None, refl, ap, ◌∙◌}
use Rattle.std.specs.Prelude.{codes, bytes_eq}
use mathlib.Core.Logic.{inl, inr}
use Rattle.std.specs.Str.{str_eq_ignore_ascii_case}
use Rattle.std.proofs.lemmas.Bool.{false≢true, and_parts}
use Rattle.station_lines.specs.declared.script.format.TheConstants.{KEYWORD_LETTERS}
use Rattle.station_lines.specs.declared.script.verb.Verb.{Verb}
use Rattle.station_lines.specs.declared.script.verb.Verb.TheVariants as verb
use Rattle.station_lines.specs.Script.Parts.{is_keyword}
use Rattle.station_lines.specs.Script.Meaning.{Part, keyword, or_, IsPart}
use Rattle.station_lines.specs.Script.Reading.{verb_in}
use Rattle.station_lines.proofs.ScriptLaws.PartLaws.{lower, same_text}

-- the keyword of a verb
abbrev pub spelling : Verb → Part
spelling verb.Select = keyword (codes "SELECT")
spelling verb.Use = keyword (codes "USE")
spelling verb.Go = or_ (keyword (codes "GO")) (keyword (codes "GOTO"))
spelling verb.Skip = keyword (codes "SKIP")
spelling verb.Seek = keyword (codes "SEEK")
spelling verb.Set = keyword (codes "SET")
spelling verb.Append = keyword (codes "APPEND")
spelling verb.Replace = keyword (codes "REPLACE")
spelling verb.Memo = keyword (codes "MEMO")
spelling verb.Delete = keyword (codes "DELETE")
spelling verb.Recall = keyword (codes "RECALL")
spelling verb.Pack = keyword (codes "PACK")
spelling verb.Unlock = keyword (codes "UNLOCK")
spelling verb.Ask = keyword (codes "?")
spelling verb.Display = keyword (codes "DISPLAY")

-- ---- what is found is the verb

abbrev IsFound : List ℕ → Option Verb → Type 0
IsFound word None = Unit {0}
IsFound word (Some v) = IsPart (spelling v) word

either_way : (word : List ℕ) (q : Bool) (v : Verb) (o : Option Verb) → (q ≡ true → IsPart (spelling v) word) → IsFound word o → IsFound word (cond q (Some v) o)
either_way word true v o f g = f refl
either_way word false v o f g = g

found_verb : (word : List ℕ) → IsFound word (verb_in word)
found_verb word =
    either_way word _ verb.Select _ (λ e. e) (
    either_way word _ verb.Use _ (λ e. e) (
    either_way word _ verb.Go _ (λ e. inl e) (
    either_way word _ verb.Go _ (λ e. inr e) (
    either_way word _ verb.Skip _ (λ e. e) (
    either_way word _ verb.Seek _ (λ e. e) (
    either_way word _ verb.Set _ (λ e. e) (
    either_way word _ verb.Append _ (λ e. e) (
    either_way word _ verb.Replace _ (λ e. e) (
    either_way word _ verb.Memo _ (λ e. e) (
    either_way word _ verb.Delete _ (λ e. e) (
    either_way word _ verb.Recall _ (λ e. e) (
    either_way word _ verb.Pack _ (λ e. e) (
    either_way word _ verb.Unlock _ (λ e. e) (
    either_way word _ verb.Ask _ (λ e. e) (
    either_way word _ verb.Display None (λ e. e) tt)))))))))))))))

is_found : (word : List ℕ) (o : Option Verb) (v : Verb) → o ≡ Some v → IsFound word o → IsPart (spelling v) word
is_found word None v e f = absurd cc
is_found word (Some u) v e f = let same : u ≡ v = cc in rw same at f

pub verb_is : (word : List ℕ) (v : Verb) → verb_in word ≡ Some v → IsPart (spelling v) word
verb_is word v e = is_found word (verb_in word) v e (found_verb word)

-- ---- a verb is found: its first four letters tell it from all others

abbrev others_fit : List ℕ → List ℕ → Bool
others_fit k word = str_eq_ignore_ascii_case (drop KEYWORD_LETTERS word) (take (length word - KEYWORD_LETTERS) (drop KEYWORD_LETTERS k))

-- the verb of a word, by its first four letters in small ones
abbrev verb_at : List ℕ → List ℕ → Option Verb
verb_at head word =
    cond (bytes_eq head (lower (take KEYWORD_LETTERS (codes "SELECT"))) && others_fit (codes "SELECT") word) (Some verb.Select) (
    cond (bytes_eq head (lower (take KEYWORD_LETTERS (codes "USE"))) && others_fit (codes "USE") word) (Some verb.Use) (
    cond (bytes_eq head (lower (take KEYWORD_LETTERS (codes "GO"))) && others_fit (codes "GO") word) (Some verb.Go) (
    cond (bytes_eq head (lower (take KEYWORD_LETTERS (codes "GOTO"))) && others_fit (codes "GOTO") word) (Some verb.Go) (
    cond (bytes_eq head (lower (take KEYWORD_LETTERS (codes "SKIP"))) && others_fit (codes "SKIP") word) (Some verb.Skip) (
    cond (bytes_eq head (lower (take KEYWORD_LETTERS (codes "SEEK"))) && others_fit (codes "SEEK") word) (Some verb.Seek) (
    cond (bytes_eq head (lower (take KEYWORD_LETTERS (codes "SET"))) && others_fit (codes "SET") word) (Some verb.Set) (
    cond (bytes_eq head (lower (take KEYWORD_LETTERS (codes "APPEND"))) && others_fit (codes "APPEND") word) (Some verb.Append) (
    cond (bytes_eq head (lower (take KEYWORD_LETTERS (codes "REPLACE"))) && others_fit (codes "REPLACE") word) (Some verb.Replace) (
    cond (bytes_eq head (lower (take KEYWORD_LETTERS (codes "MEMO"))) && others_fit (codes "MEMO") word) (Some verb.Memo) (
    cond (bytes_eq head (lower (take KEYWORD_LETTERS (codes "DELETE"))) && others_fit (codes "DELETE") word) (Some verb.Delete) (
    cond (bytes_eq head (lower (take KEYWORD_LETTERS (codes "RECALL"))) && others_fit (codes "RECALL") word) (Some verb.Recall) (
    cond (bytes_eq head (lower (take KEYWORD_LETTERS (codes "PACK"))) && others_fit (codes "PACK") word) (Some verb.Pack) (
    cond (bytes_eq head (lower (take KEYWORD_LETTERS (codes "UNLOCK"))) && others_fit (codes "UNLOCK") word) (Some verb.Unlock) (
    cond (bytes_eq head (lower (take KEYWORD_LETTERS (codes "?"))) && others_fit (codes "?") word) (Some verb.Ask) (
    cond (bytes_eq head (lower (take KEYWORD_LETTERS (codes "DISPLAY"))) && others_fit (codes "DISPLAY") word) (Some verb.Display) None)))))))))))))))

first_if : (q : Bool) (v : Verb) (o : Option Verb) → q ≡ true → cond q (Some v) o ≡ Some v
first_if true v o e = refl
first_if false v o e = absurd (false≢true e)

by_head : (k word : List ℕ) (v : Verb) → (others_fit k word ≡ true → verb_at (lower (take KEYWORD_LETTERS k)) word ≡ Some v)
    → is_keyword k word ≡ true → verb_in word ≡ Some v
by_head k word v there e =
    let p = and_parts (str_eq_ignore_ascii_case (take KEYWORD_LETTERS word) (take KEYWORD_LETTERS k)) (others_fit k word) e in
    let head : lower (take KEYWORD_LETTERS word) ≡ lower (take KEYWORD_LETTERS k) = same_text _ _ p.0 in
    ap (λ (xs : List ℕ). verb_at xs word) head ∙ there p.1

pub verb_found : (word : List ℕ) (v : Verb) → IsPart (spelling v) word → verb_in word ≡ Some v
verb_found word verb.Select h = by_head (codes "SELECT") word verb.Select (λ e. first_if _ verb.Select _ e) h
verb_found word verb.Use h = by_head (codes "USE") word verb.Use (λ e. first_if _ verb.Use _ e) h
verb_found word verb.Go (inl h) = by_head (codes "GO") word verb.Go (λ e. first_if _ verb.Go _ e) h
verb_found word verb.Go (inr h) = by_head (codes "GOTO") word verb.Go (λ e. first_if _ verb.Go _ e) h
verb_found word verb.Skip h = by_head (codes "SKIP") word verb.Skip (λ e. first_if _ verb.Skip _ e) h
verb_found word verb.Seek h = by_head (codes "SEEK") word verb.Seek (λ e. first_if _ verb.Seek _ e) h
verb_found word verb.Set h = by_head (codes "SET") word verb.Set (λ e. first_if _ verb.Set _ e) h
verb_found word verb.Append h = by_head (codes "APPEND") word verb.Append (λ e. first_if _ verb.Append _ e) h
verb_found word verb.Replace h = by_head (codes "REPLACE") word verb.Replace (λ e. first_if _ verb.Replace _ e) h
verb_found word verb.Memo h = by_head (codes "MEMO") word verb.Memo (λ e. first_if _ verb.Memo _ e) h
verb_found word verb.Delete h = by_head (codes "DELETE") word verb.Delete (λ e. first_if _ verb.Delete _ e) h
verb_found word verb.Recall h = by_head (codes "RECALL") word verb.Recall (λ e. first_if _ verb.Recall _ e) h
verb_found word verb.Pack h = by_head (codes "PACK") word verb.Pack (λ e. first_if _ verb.Pack _ e) h
verb_found word verb.Unlock h = by_head (codes "UNLOCK") word verb.Unlock (λ e. first_if _ verb.Unlock _ e) h
verb_found word verb.Ask h = by_head (codes "?") word verb.Ask (λ e. first_if _ verb.Ask _ e) h
verb_found word verb.Display h = by_head (codes "DISPLAY") word verb.Display (λ e. first_if _ verb.Display _ e) h
