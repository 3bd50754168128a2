-- The line of a command means this command.
use Rattle.std.proofs.Common.{◌≡◌, ℕ, ◌^◌, ◌<◌, true, false, List, [], ◌∷◌, ◌++◌, refl, ap, sym, subst, arith, ℤ}
use Rattle.std.specs.Prelude.{codes}
use mathlib.Core.Logic.{inl, inr}
use Rattle.std.specs.Fmt.{decimal, signed_decimal}
use Rattle.std.specs.Int.RustNames.{unsigned_abs}
use Rattle.std.proofs.lemmas.List.{append-nil}
use Rattle.catalogue_core.specs.declared.command.Command.{Command}
use Rattle.catalogue_core.specs.declared.command.Command.TheVariants as command
use Rattle.station_lines.specs.declared.script.call.CallName.TheVariants as call_name
use Rattle.station_lines.specs.declared.script.format.TheConstants.{MAX_COUNT_DIGITS}
use Rattle.station_lines.specs.declared.script.line.Line.TheVariants.{Run}
use Rattle.station_lines.specs.Script.Words.{HasWords}
use Rattle.station_lines.specs.Script.Meaning.{Part, keyword, name, count, distance, list_call, text, literal, phrase, or_, IsPart, Are, Says, Means}
use Rattle.station_lines.specs.Script.Parts.{call_text, IsListCall}
use Rattle.station_lines.specs.CommandLines.{quoted, written_value, with_commas, text_of_command, IsMeant}
use Rattle.station_lines.proofs.ScriptLaws.MeaningLaws.{call_texts, read_means}
use Rattle.station_lines.proofs.CommandLaws.NumberLaws.{count_small, count_again, distance_small, distance_again}
use Rattle.station_lines.proofs.CommandLaws.ValueLaws.{name_again, text_again, list_again, value_again}

-- ---- words apart by one blank

last_word : (word : List ℕ) → HasWords (word ∷ []) word
last_word word = ([], [], sym (append-nil word), refl, refl, refl)

after_blank : (words : List (List ℕ)) (line : List ℕ) → HasWords words line → HasWords words (32 ∷ line)
after_blank [] line h = h
after_blank (word ∷ words) line h = (32 ∷ h.0, h.1, ap (λ (xs : List ℕ). 32 ∷ xs) h.2, h.3, h.4, h.5)

more_words : (word : List ℕ) (words : List (List ℕ)) (line : List ℕ) → HasWords words line → HasWords (word ∷ words) (word ++ (32 ∷ line))
more_words word words line h = ([], 32 ∷ line, refl, refl, refl, after_blank words line h)

two_words : (a b : List ℕ) → HasWords (a ∷ b ∷ []) (a ++ (32 ∷ b))
two_words a b = more_words a (b ∷ []) b (last_word b)

three_words : (a b c : List ℕ) → HasWords (a ∷ b ∷ c ∷ []) (a ++ (32 ∷ (b ++ (32 ∷ c))))
three_words a b c = more_words a (b ∷ c ∷ []) (b ++ (32 ∷ c)) (two_words b c)

four_words : (a b c d : List ℕ) → HasWords (a ∷ b ∷ c ∷ d ∷ []) (a ++ (32 ∷ (b ++ (32 ∷ (c ++ (32 ∷ d))))))
four_words a b c d = more_words a (b ∷ c ∷ d ∷ []) (b ++ (32 ∷ (c ++ (32 ∷ d)))) (three_words b c d)

five_words : (a b c d e : List ℕ) → HasWords (a ∷ b ∷ c ∷ d ∷ e ∷ []) (a ++ (32 ∷ (b ++ (32 ∷ (c ++ (32 ∷ (d ++ (32 ∷ e))))))))
five_words a b c d e = more_words a (b ∷ c ∷ d ∷ e ∷ []) (b ++ (32 ∷ (c ++ (32 ∷ (d ++ (32 ∷ e)))))) (four_words b c d e)

-- ---- a word of each part of a command's form

abbrev HasEach : List Part → Type 0
HasEach [] = Unit {0}
HasEach (p ∷ ps) = ((word : List ℕ) × IsPart p word) × HasEach ps

each : (ps : List Part) (words : List (List ℕ)) → Are ps words → HasEach ps
each [] [] h = tt
each [] (w ∷ ws) h = absurd h
each (p ∷ ps) [] h = absurd h
each (p ∷ ps) (w ∷ ws) h = ((w, h.0), each ps ws h.1)

count_part : (word : List ℕ) (n : ℕ) → IsPart (count n) word → IsPart (count n) (decimal n)
count_part word n h = count_again n (count_small word n h)

pub skip_small : (words : List (List ℕ)) (n : ℤ) → Says words (Run (command.Skip n)) → unsigned_abs n < 10 ^ MAX_COUNT_DIGITS
skip_small words n (inl h) = let e = each (keyword (codes "SKIP") ∷ distance n ∷ []) words h in distance_small e.1.0.0 n e.1.0.1
skip_small words n (inr h) = subst (λ (z : ℤ). unsigned_abs z < 10 ^ MAX_COUNT_DIGITS) (sym h.1) (omega arith)

lock_word : (word ns : List ℕ) → IsPart (or_ (list_call (codes "RLOCK(") ns) (list_call (codes "LOCK(") ns)) word → IsListCall (codes "RLOCK(") (codes "RLOCK(" ++ (with_commas ns ++ codes ")")) ns
lock_word word ns (inl c) = list_again (codes "RLOCK(") word ns c
lock_word word ns (inr c) = list_again (codes "LOCK(") word ns c

locks_again : (words : List (List ℕ)) (ns : List ℕ) → Says words (Run (command.RecordLocks ns)) → IsListCall (codes "RLOCK(") (codes "RLOCK(" ++ (with_commas ns ++ codes ")")) ns
locks_again words ns h =
    let e = each (keyword (codes "?") ∷ or_ (list_call (codes "RLOCK(") ns) (list_call (codes "LOCK(") ns) ∷ []) words h in
    lock_word e.1.0.0 ns e.1.0.1

bad_again : Means (codes "BAD") (Run command.Bad)
bad_again = read_means (codes "BAD")

-- ---- the line of each command

again : (command : Command) (line : List ℕ) → Means line (Run command) → Means (text_of_command command) (Run command)
again (command.Select n) line m =
    let e = each (keyword (codes "SELECT") ∷ count n ∷ []) m.0 m.2 in
    (codes "SELECT" ∷ decimal n ∷ [], two_words (codes "SELECT") (decimal n), (refl, (count_part e.1.0.0 n e.1.0.1, tt)))
again (command.UseTable n false) line m =
    let e = each (keyword (codes "USE") ∷ name n ∷ []) m.0 m.2 in
    (codes "USE" ∷ n ∷ [], two_words (codes "USE") n, (refl, (name_again e.1.0.0 n e.1.0.1, tt)))
again (command.UseTable n true) line m =
    let e = each (keyword (codes "USE") ∷ name n ∷ keyword (codes "EXCLUSIVE") ∷ []) m.0 m.2 in
    (codes "USE" ∷ n ∷ codes "EXCLUSIVE" ∷ [], three_words (codes "USE") n (codes "EXCLUSIVE"), (refl, (name_again e.1.0.0 n e.1.0.1, (refl, tt))))
again command.CloseTable line m = (codes "USE" ∷ [], last_word (codes "USE"), (refl, tt))
again (command.Go n) line m =
    let e = each (or_ (keyword (codes "GO")) (keyword (codes "GOTO")) ∷ count n ∷ []) m.0 m.2 in
    (codes "GO" ∷ decimal n ∷ [], two_words (codes "GO") (decimal n), (inl refl, (count_part e.1.0.0 n e.1.0.1, tt)))
again command.Top line m = (codes "GO" ∷ codes "TOP" ∷ [], two_words (codes "GO") (codes "TOP"), (inl refl, (refl, tt)))
again command.Bottom line m = (codes "GO" ∷ codes "BOTTOM" ∷ [], two_words (codes "GO") (codes "BOTTOM"), (inl refl, (refl, tt)))
again (command.Skip n) line m =
    (codes "SKIP" ∷ signed_decimal n ∷ [], two_words (codes "SKIP") (signed_decimal n), inl (refl, (distance_again n (skip_small m.0 n m.2), tt)))
again (command.Seek t) line m =
    let e = each (keyword (codes "SEEK") ∷ text t ∷ []) m.0 m.2 in
    (codes "SEEK" ∷ quoted t ∷ [], two_words (codes "SEEK") (quoted t), (refl, (text_again e.1.0.0 t e.1.0.1, tt)))
again (command.Order n) line m =
    let e = each (keyword (codes "SET") ∷ keyword (codes "ORDER") ∷ keyword (codes "TO") ∷ count n ∷ []) m.0 m.2 in
    (codes "SET" ∷ codes "ORDER" ∷ codes "TO" ∷ decimal n ∷ [], four_words (codes "SET") (codes "ORDER") (codes "TO") (decimal n), (refl, (refl, (refl, (count_part e.1.1.1.0.0 n e.1.1.1.0.1, tt)))))
again command.AppendBlank line m = (codes "APPEND" ∷ codes "BLANK" ∷ [], two_words (codes "APPEND") (codes "BLANK"), (refl, (refl, tt)))
again (command.Replace f l) line m =
    let e = each (keyword (codes "REPLACE") ∷ name f ∷ keyword (codes "WITH") ∷ literal l ∷ []) m.0 m.2 in
    (codes "REPLACE" ∷ f ∷ codes "WITH" ∷ written_value l ∷ [], four_words (codes "REPLACE") f (codes "WITH") (written_value l), (refl, (name_again e.1.0.0 f e.1.0.1, (refl, (value_again e.1.1.1.0.0 l e.1.1.1.0.1, tt)))))
again (command.Memo f t) line m =
    let e = each (keyword (codes "MEMO") ∷ name f ∷ keyword (codes "WITH") ∷ text t ∷ []) m.0 m.2 in
    (codes "MEMO" ∷ f ∷ codes "WITH" ∷ quoted t ∷ [], four_words (codes "MEMO") f (codes "WITH") (quoted t), (refl, (name_again e.1.0.0 f e.1.0.1, (refl, (text_again e.1.1.1.0.0 t e.1.1.1.0.1, tt)))))
again command.Delete line m = (codes "DELETE" ∷ [], last_word (codes "DELETE"), (refl, tt))
again command.Recall line m = (codes "RECALL" ∷ [], last_word (codes "RECALL"), (refl, tt))
again command.Pack line m = (codes "PACK" ∷ [], last_word (codes "PACK"), (refl, tt))
again (command.IndexOn x n) line m =
    let e = each (keyword (codes "INDEX") ∷ keyword (codes "ON") ∷ phrase x ∷ keyword (codes "TO") ∷ name n ∷ []) m.0 m.2 in
    (codes "INDEX" ∷ codes "ON" ∷ x ∷ codes "TO" ∷ n ∷ [], five_words (codes "INDEX") (codes "ON") x (codes "TO") n, (refl, (refl, ((refl, e.1.1.0.1.1), (refl, (name_again e.1.1.1.1.0.0 n e.1.1.1.1.0.1, tt))))))
again command.Unlock line m = (codes "UNLOCK" ∷ [], last_word (codes "UNLOCK"), (refl, tt))
again command.UnlockAll line m = (codes "UNLOCK" ∷ codes "ALL" ∷ [], two_words (codes "UNLOCK") (codes "ALL"), (refl, (refl, tt)))
again (command.Show f) line m =
    let e = each (keyword (codes "?") ∷ name f ∷ []) m.0 m.2 in
    (codes "?" ∷ f ∷ [], two_words (codes "?") f, (refl, (name_again e.1.0.0 f e.1.0.1, tt)))
again command.RecordLock line m = (codes "?" ∷ codes "RLOCK()" ∷ [], two_words (codes "?") (codes "RLOCK()"), (refl, (inl refl, tt)))
again (command.RecordLocks ns) line m =
    (codes "?" ∷ (codes "RLOCK(" ++ (with_commas ns ++ codes ")")) ∷ [], two_words (codes "?") (codes "RLOCK(" ++ (with_commas ns ++ codes ")")), (refl, (inl (locks_again m.0 ns m.2), tt)))
again command.FileLock line m = (codes "?" ∷ codes "FLOCK()" ∷ [], two_words (codes "?") (codes "FLOCK()"), (refl, (refl, tt)))
again (command.Ask q) line m = (codes "?" ∷ call_text (call_name.Ask q) ∷ [], two_words (codes "?") (call_text (call_name.Ask q)), (refl, ((call_texts (call_name.Ask q)).1, tt)))
again command.Bad line m = bad_again

-- the line of a command that a text means means this command
pub text_means : (command : Command) (made : List ℕ) → made ≡ text_of_command command → IsMeant command → Means made (Run command)
text_means command made e is = subst (λ (xs : List ℕ). Means xs (Run command)) (sym e) (again command is.0 is.1)
