-- What the loops over the lines of a text keep.
use Rattle.std.proofs.Common.{◌≡◌, ℕ, suc, ◌+◌, ◌-◌, ◌<◌, ◌≤◌, Bool, true, false, cond, ◌==◌, List, [], ◌∷◌, ◌++◌, length, get_or, drop, Option, Some, refl, add-one, drop-cons, ap, ◌∙◌, sym, subst, arith}
use Rattle.std.proofs.lemmas.Bool.{false≢true}
use Rattle.std.proofs.lemmas.List.{append_assoc, append-nil}
use Rattle.folders.specs.declared.named.NamedFile.{NamedFile}
use Rattle.station_lines.specs.declared.setup.entry.SetupEntry.{SetupEntry}
use Rattle.std.specs.Prelude.{codes}
use Rattle.std.specs.Fmt.{decimal}
use Rattle.station_lines.specs.BadSetupLines.{SetupReason, setup_reason}
use Rattle.station_lines.specs.Script.Lines.{AreLines}
use Rattle.station_lines.proofs.ScriptLaws.CuttingLaws.{one_cutting, some_lines}
use Rattle.setup_check.specs.declared.scripts.BadLinesTold.{BadLinesTold}
use Rattle.setup_check.specs.declared.scripts.BadLinesTold.TheVariants.{First, Each}
use Rattle.setup_check.specs.declared.scripts.ScriptCounts.{ScriptCounts}
use Rattle.setup_check.specs.ScriptLines.{is_bad_line, bad_count, first_bad, line_of_number, AreCounts, counted_line, script_line, bad_line_text, bad_lines_text, script_text, setup_reason_words, IsEntryText, AreScriptTexts}

-- however the rest is cut, a fact holds of all lines and of those that are left
abbrev pub Still : List ℕ → (List (List ℕ) → List (List ℕ) → Type 0) → List ℕ → Type 0
Still text P rest = (tail : List (List ℕ)) → AreLines tail rest → (lines : List (List ℕ)) × AreLines lines text × P lines tail

pub still_first : (text : List ℕ) (P : List (List ℕ) → List (List ℕ) → Type 0) → ((lines : List (List ℕ)) → P lines lines) → Still text P text
still_first text P h tail are = (tail, are, h tail)

-- the rest has this line first
abbrev pub IsAfter : List ℕ → List ℕ → List ℕ → Type 0
IsAfter line old new = (others : List (List ℕ)) → AreLines others new → AreLines (line ∷ others) old

pub still_more : (text : List ℕ) (P Q : List (List ℕ) → List (List ℕ) → Type 0) (line old new : List ℕ) → Still text P old → IsAfter line old new
    → ((lines tail : List (List ℕ)) → P lines (line ∷ tail) → Q lines tail) → Still text Q new
still_more text P Q line old new h joined step tail are =
    let k = h (line ∷ tail) (joined tail are) in
    (k.0, k.1, step k.0 tail k.2)

-- at the end
pub still_end : (text : List ℕ) (P : List (List ℕ) → List (List ℕ) → Type 0) (rest : List ℕ) → Still text P rest → rest ≡ [] → (all : List (List ℕ)) → AreLines all text → P all []
still_end text P rest h none all are =
    let k = h [] none in
    subst (λ (lines : List (List ℕ)). P lines []) (one_cutting text k.0 all k.1 are) k.2

-- at a line
pub still_here : (text : List ℕ) (P : List (List ℕ) → List (List ℕ) → Type 0) (line old new : List ℕ) → Still text P old → IsAfter line old new
    → (all : List (List ℕ)) → AreLines all text → (tail : List (List ℕ)) × P all (line ∷ tail)
still_here text P line old new h joined all are =
    let others = some_lines new in
    let k = h (line ∷ others.0) (joined others.0 others.1) in
    (others.0, subst (λ (lines : List (List ℕ)). P lines (line ∷ others.0)) (one_cutting text k.0 all k.1 are) k.2)

-- ---- by whether a line is counted, or is the one

counted_by : (q p : Bool) (b more m total : ℕ) → q ≡ p → more ≡ cond q (b + 1) b → b + (cond p 1 0 + m) ≡ total → more + m ≡ total
counted_by true true b more m total same is h = omega (arith, is, h)
counted_by true false b more m total same is h = absurd (false≢true (sym same))
counted_by false true b more m total same is h = absurd (false≢true same)
counted_by false false b more m total same is h = omega (arith, is, h)

pub here : {X : Type 0} (p : Bool) (x y z : X) → p ≡ true → cond p x y ≡ z → x ≡ z
here true x y z is h = h
here false x y z is h = absurd (false≢true is)

pub further : {X : Type 0} (p : Bool) (x y z : X) → p ≡ false → cond p x y ≡ z → y ≡ z
further true x y z is h = absurd (false≢true (sym is))
further false x y z is h = h

-- ---- counts

abbrev pub Counting : ℕ → ℕ → List (List ℕ) → List (List ℕ) → Type 0
Counting n b lines tail = (n + length tail ≡ length lines) × (b + bad_count tail ≡ bad_count lines)

pub counting_more : (n b more : ℕ) (line : List ℕ) (q : Bool) → q ≡ is_bad_line line → more ≡ cond q (b + 1) b → (lines tail : List (List ℕ))
    → Counting n b lines (line ∷ tail) → Counting (n + 1) more lines tail
counting_more n b more line q same is lines tail h =
    (omega (arith, h.0), counted_by q (is_bad_line line) b more (bad_count tail) (bad_count lines) same is h.1)

pub counted_few : (q : Bool) (b more n : ℕ) → more ≡ cond q (b + 1) b → b ≤ n → more ≤ n + 1
counted_few true b more n is h = omega (arith, is, h)
counted_few false b more n is h = omega (arith, is, h)

pub counts_end : (counts : ScriptCounts) (lines : List (List ℕ)) → Counting counts.lines counts.bad lines [] → AreCounts lines counts
counts_end counts lines h = record { all = omega (arith, h.0); bad_ones = omega (arith, h.1) }

-- ---- the first bad line

abbrev pub Seeking : ℕ → List (List ℕ) → List (List ℕ) → Type 0
Seeking n lines tail = first_bad (n + 1) tail ≡ first_bad 1 lines

pub seeking_more : (n : ℕ) (line : List ℕ) (q : Bool) → q ≡ is_bad_line line → q ≡ false → (lines tail : List (List ℕ)) → Seeking n lines (line ∷ tail) → Seeking (n + 1) lines tail
seeking_more n line q same good lines tail h =
    further (is_bad_line line) (Some (n + 1, line)) (first_bad (n + 1 + 1) tail) (first_bad 1 lines) (sym same ∙ good) h

pub seeking_found : (n : ℕ) (line : List ℕ) (q : Bool) → q ≡ is_bad_line line → q ≡ true → (lines tail : List (List ℕ)) → Seeking n lines (line ∷ tail) → Some (n + 1, line) ≡ first_bad 1 lines
seeking_found n line q same bad lines tail h =
    here (is_bad_line line) (Some (n + 1, line)) (first_bad (n + 1 + 1) tail) (first_bad 1 lines) (sym same ∙ bad) h

-- ---- the line of a number

abbrev pub Going : ℕ → ℕ → List (List ℕ) → List (List ℕ) → Type 0
Going number left lines tail = line_of_number left tail ≡ line_of_number number lines

pub going_more : (number left next : ℕ) (line : List ℕ) → (left == 1) ≡ false → next ≡ left - 1 → (lines tail : List (List ℕ)) → Going number left lines (line ∷ tail) → Going number next lines tail
going_more number left next line other is lines tail h =
    subst (λ (k : ℕ). line_of_number k tail ≡ line_of_number number lines) (sym is)
    (further (left == 1) line (line_of_number (left - 1) tail) (line_of_number number lines) other h)

pub going_found : (number left : ℕ) (line : List ℕ) → (left == 1) ≡ true → (lines tail : List (List ℕ)) → Going number left lines (line ∷ tail) → line ≡ line_of_number number lines
going_found number left line one lines tail h = here (left == 1) line (line_of_number (left - 1) tail) (line_of_number number lines) one h

-- ---- the bad lines one by one

abbrev pub Telling : List ℕ → List ℕ → List ℕ → ℕ → List (List ℕ) → List (List ℕ) → Type 0
Telling old path text n lines tail = text ++ bad_lines_text path (n + 1) tail ≡ old ++ bad_lines_text path 1 lines

pub telling_more : (old path text next : List ℕ) (n : ℕ) (line : List ℕ) → next ≡ text ++ cond (is_bad_line line) (bad_line_text path (n + 1) line) [] → (lines tail : List (List ℕ))
    → Telling old path text n lines (line ∷ tail) → Telling old path next (n + 1) lines tail
telling_more old path text next n line is lines tail h =
    let own : List ℕ = cond (is_bad_line line) (bad_line_text path (n + 1) line) [] in
    ap (λ (t : List ℕ). t ++ bad_lines_text path (n + 1 + 1) tail) is ∙ (append_assoc text own (bad_lines_text path (n + 1 + 1) tail) ∙ h)

pub telling_end : (old path text : List ℕ) (n : ℕ) (lines : List (List ℕ)) → Telling old path text n lines [] → text ≡ old ++ bad_lines_text path 1 lines
telling_end old path text n lines h = sym (append-nil text) ∙ h

-- ---- a script

counted_is : (path : List ℕ) (lines : List (List ℕ)) (counts : ScriptCounts) (first : Option (ℕ × List ℕ)) → AreCounts lines counts → first ≡ first_bad 1 lines
    → counted_line path counts.lines counts.bad first ≡ script_line path lines
counted_is path lines counts first are is =
    ap (λ (n : ℕ). counted_line path n counts.bad first) are.all
    ∙ (ap (λ (b : ℕ). counted_line path (length lines) b first) are.bad_ones
    ∙ ap (λ (f : Option (ℕ × List ℕ)). counted_line path (length lines) (bad_count lines) f) is)

pub script_first : (path old new : List ℕ) (lines : List (List ℕ)) (counts : ScriptCounts) (first : Option (ℕ × List ℕ)) → AreCounts lines counts → first ≡ first_bad 1 lines
    → new ≡ old ++ counted_line path counts.lines counts.bad first → new ≡ old ++ script_text First path lines
script_first path old new lines counts first are is h =
    h ∙ (ap (λ (t : List ℕ). old ++ t) (counted_is path lines counts first are is) ∙ ap (λ (t : List ℕ). old ++ t) (sym (append-nil (script_line path lines))))

pub script_each : (path old text new : List ℕ) (lines : List (List ℕ)) (counts : ScriptCounts) (first : Option (ℕ × List ℕ)) → AreCounts lines counts → first ≡ first_bad 1 lines
    → text ≡ old ++ counted_line path counts.lines counts.bad first → new ≡ text ++ bad_lines_text path 1 lines → new ≡ old ++ script_text Each path lines
script_each path old text new lines counts first are is h k =
    k ∙ (ap (λ (t : List ℕ). t ++ bad_lines_text path 1 lines) (h ∙ ap (λ (t : List ℕ). old ++ t) (counted_is path lines counts first are is))
    ∙ append_assoc old (script_line path lines) (bad_lines_text path 1 lines))

-- ---- the scripts of entries

pub dropped : (entries : List SetupEntry) (i : ℕ) (entry : SetupEntry) → i < length entries → entry ≡ get_or entries i entry → drop i entries ≡ entry ∷ drop (i + 1) entries
dropped entries i entry lt is = drop-cons entries i entry lt ∙ (ap (λ (e : SetupEntry). e ∷ drop (suc i) entries) (sym is) ∙ ap (λ (n : ℕ). entry ∷ drop n entries) (sym (add-one i)))

-- with what is told of the entries that are left, the text is what is told of all
abbrev pub TellsSo : Option (List NamedFile) → BadLinesTold → List SetupEntry → List SetupEntry → List ℕ → Type 0
TellsSo files told entries left text = (rest : List ℕ) → AreScriptTexts files told left rest → AreScriptTexts files told entries (text ++ rest)

pub tells_more : (files : Option (List NamedFile)) (told : BadLinesTold) (entries left next : List SetupEntry) (entry : SetupEntry) (text own new : List ℕ)
    → TellsSo files told entries left text → left ≡ entry ∷ next → IsEntryText files told entry own → new ≡ text ++ own → TellsSo files told entries next new
tells_more files told entries left next entry text own new h is one e rest more =
    let both : AreScriptTexts files told left (own ++ rest) = subst (λ (es : List SetupEntry). AreScriptTexts files told es (own ++ rest)) (sym is) (own, rest, refl, one, more) in
    subst (AreScriptTexts files told entries) (sym (ap (λ (t : List ℕ). t ++ rest) e ∙ append_assoc text own rest)) (h (own ++ rest) both)

pub tells_all : (files : Option (List NamedFile)) (told : BadLinesTold) (entries left : List SetupEntry) (text : List ℕ) → TellsSo files told entries left text → left ≡ [] → AreScriptTexts files told entries text
tells_all files told entries left text h none =
    subst (AreScriptTexts files told entries) (append-nil text) (h [] (subst (λ (es : List SetupEntry). AreScriptTexts files told es []) (sym none) refl))

-- ---- a bad line of a setup

pub bad_setup : (t0 t1 t2 t3 : List ℕ) (number : ℕ) (line : List ℕ) (lines : List (List ℕ)) (why : SetupReason) → t0 ≡ [] → t1 ≡ t0 ++ (codes "setup line " ++ decimal number) → t2 ≡ t1 ++ codes " is bad: "
    → t3 ≡ t2 ++ setup_reason_words why → why ≡ setup_reason line → line ≡ line_of_number number lines
    → t3 ≡ codes "setup line " ++ (decimal number ++ (codes " is bad: " ++ setup_reason_words (setup_reason (line_of_number number lines))))
bad_setup t0 t1 t2 t3 number line lines why h0 h1 h2 h3 is at =
    let reason : why ≡ setup_reason (line_of_number number lines) = is ∙ ap (λ (l : List ℕ). setup_reason l) at in
    let words : List ℕ = setup_reason_words why in
    let whole : ((([] ++ (codes "setup line " ++ decimal number)) ++ codes " is bad: ") ++ words) ≡ codes "setup line " ++ (decimal number ++ (codes " is bad: " ++ words)) = simp append_assoc in
    h3 ∙ (ap (λ (t : List ℕ). t ++ words) (h2 ∙ ap (λ (t : List ℕ). t ++ codes " is bad: ") (h1 ∙ ap (λ (t : List ℕ). t ++ (codes "setup line " ++ decimal number)) h0))
    ∙ (whole ∙ ap (λ (r : SetupReason). codes "setup line " ++ (decimal number ++ (codes " is bad: " ++ setup_reason_words r))) reason))
