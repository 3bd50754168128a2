-- What a script line means: the list of commands.
use Rattle.std.specs.Prelude.{◌≡◌, ◌⊎◌, ℕ, true, false, List, [], ◌∷◌, codes, ℤ, pos, Some}
use Rattle.dbf_fields.specs.declared.literal.Literal.{Literal}
use Rattle.catalogue_core.specs.declared.command.Command.TheVariants.{Select, UseTable, CloseTable, Go, Top, Bottom, Skip, Seek, Order, AppendBlank, Replace, Memo, Delete, Recall, Pack, IndexOn, Unlock, UnlockAll, Show, RecordLock, RecordLocks, FileLock, Ask, Bad}
use Rattle.station_lines.specs.declared.script.call.CallName.TheVariants as call_name
use Rattle.station_lines.specs.declared.script.line.Line.{Line}
use Rattle.station_lines.specs.declared.script.line.Line.TheVariants.{Run, Status, Blank}
use Rattle.station_lines.specs.Script.Words.{HasWords, IsBlankLine}
use Rattle.station_lines.specs.Script.Parts.{is_keyword, is_call, call_text, name_in, count_in, distance_in, is_phrase, IsListCall, IsText}
use Rattle.station_lines.specs.Script.Literals.{IsLiteral}

-- what a command's form has in a word's place; a phrase may hold blanks and tabs
pub data Part : Type 0 where
  keyword : List ℕ → Part
  call : List ℕ → Part
  name : List ℕ → Part
  count : ℕ → Part
  distance : ℤ → Part
  list_call : List ℕ → List ℕ → Part
  text : List ℕ → Part
  literal : Literal → Part
  phrase : List ℕ → Part
  or_ : Part → Part → Part

abbrev pub IsPart : Part → List ℕ → Type 0
IsPart (keyword k) word = is_keyword k word ≡ true
IsPart (call f) word = is_call f word ≡ true
IsPart (name n) word = name_in word ≡ Some n
IsPart (count n) word = count_in word ≡ Some n
IsPart (distance n) word = distance_in word ≡ Some n
IsPart (list_call f ns) word = IsListCall f word ns
IsPart (text t) word = IsText word t
IsPart (literal l) word = IsLiteral word l
IsPart (phrase p) word = (word ≡ p) × (is_phrase p ≡ true)
IsPart (or_ p q) word = IsPart p word ⊎ IsPart q word

-- the words are of this form, each one its part
abbrev pub Are : List Part → List (List ℕ) → Type 0
Are [] [] = Unit {0}
Are (part ∷ parts) (word ∷ words) = IsPart part word × Are parts words
Are parts words = ⊥

-- The words of each command, and of DISPLAY STATUS. In INDEX ON the last two words are TO and the name, and all that
-- stands between ON and them is the expression.
abbrev pub Says : List (List ℕ) → Line → Type 0
Says words (Run (Select n)) = Are (keyword (codes "SELECT") ∷ count n ∷ []) words
Says words (Run (UseTable n false)) = Are (keyword (codes "USE") ∷ name n ∷ []) words
Says words (Run (UseTable n true)) = Are (keyword (codes "USE") ∷ name n ∷ keyword (codes "EXCLUSIVE") ∷ []) words
Says words (Run CloseTable) = Are (keyword (codes "USE") ∷ []) words
Says words (Run (Go n)) = Are (or_ (keyword (codes "GO")) (keyword (codes "GOTO")) ∷ count n ∷ []) words
Says words (Run Top) = Are (or_ (keyword (codes "GO")) (keyword (codes "GOTO")) ∷ keyword (codes "TOP") ∷ []) words
Says words (Run Bottom) = Are (or_ (keyword (codes "GO")) (keyword (codes "GOTO")) ∷ keyword (codes "BOTTOM") ∷ []) words
Says words (Run (Skip n)) =
    Are (keyword (codes "SKIP") ∷ distance n ∷ []) words ⊎ (Are (keyword (codes "SKIP") ∷ []) words × (n ≡ pos 1))
Says words (Run (Seek t)) = Are (keyword (codes "SEEK") ∷ text t ∷ []) words
Says words (Run (Order n)) =
    Are (keyword (codes "SET") ∷ keyword (codes "ORDER") ∷ keyword (codes "TO") ∷ count n ∷ []) words
Says words (Run AppendBlank) = Are (keyword (codes "APPEND") ∷ keyword (codes "BLANK") ∷ []) words
Says words (Run (Replace f l)) =
    Are (keyword (codes "REPLACE") ∷ name f ∷ keyword (codes "WITH") ∷ literal l ∷ []) words
Says words (Run (Memo f t)) = Are (keyword (codes "MEMO") ∷ name f ∷ keyword (codes "WITH") ∷ text t ∷ []) words
Says words (Run Delete) = Are (keyword (codes "DELETE") ∷ []) words
Says words (Run Recall) = Are (keyword (codes "RECALL") ∷ []) words
Says words (Run Pack) = Are (keyword (codes "PACK") ∷ []) words
Says words (Run (IndexOn e n)) =
    Are (keyword (codes "INDEX") ∷ keyword (codes "ON") ∷ phrase e ∷ keyword (codes "TO") ∷ name n ∷ []) words
Says words (Run Unlock) = Are (keyword (codes "UNLOCK") ∷ []) words
Says words (Run UnlockAll) = Are (keyword (codes "UNLOCK") ∷ keyword (codes "ALL") ∷ []) words
Says words (Run (Show f)) = Are (keyword (codes "?") ∷ name f ∷ []) words
Says words (Run RecordLock) = Are (keyword (codes "?") ∷ or_ (call (call_text call_name.Rlock)) (call (call_text call_name.Lock)) ∷ []) words
Says words (Run (RecordLocks ns)) =
    Are (keyword (codes "?") ∷ or_ (list_call (codes "RLOCK(") ns) (list_call (codes "LOCK(") ns) ∷ []) words
Says words (Run FileLock) = Are (keyword (codes "?") ∷ call (call_text call_name.Flock) ∷ []) words
Says words (Run (Ask q)) = Are (keyword (codes "?") ∷ call (call_text (call_name.Ask q)) ∷ []) words
Says words Status = Are (keyword (codes "DISPLAY") ∷ keyword (codes "STATUS") ∷ []) words
Says words (Run Bad) = ⊥
Says words Blank = ⊥

-- the line is blank, or its words are those of a command or of DISPLAY STATUS
abbrev pub IsReadable : List ℕ → Line → Type 0
IsReadable line Blank = IsBlankLine line
IsReadable line meaning = (words : List (List ℕ)) × HasWords words line × Says words meaning

-- what a line means, and Bad exactly where that is nothing else
abbrev pub Means : List ℕ → Line → Type 0
Means line (Run Bad) = (meaning : Line) → IsReadable line meaning → ⊥
Means line meaning = IsReadable line meaning
