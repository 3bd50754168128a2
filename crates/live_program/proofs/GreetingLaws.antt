-- What is said at a start, station by station.
use Rattle.std.proofs.Common.{◌≡◌, ◌≢◌, ◌∙◌, ℕ, zero, suc, ◌+◌, ◌<◌, List, [], ◌∷◌, ◌++◌, length, take, get_or, Option, None, Some, Result, Ok, Err, refl, sym, ap, subst, arith}
use Rattle.std.specs.Prelude.{IfOk, OnOk}
use Rattle.std.proofs.lemmas.List.{append-nil, take_more}
use Rattle.std.specs.Io.KnownBytes.{Appends}
use Rattle.catalogue_core.specs.declared.entry.Entry.{Entry}
use Rattle.program_frame.proofs.Printing.{appends_then}
use Rattle.live_program.proofs.FileLaws.{next_number}
use Rattle.live_program.specs.Greetings.{again_line, again_text, earlier_line, earlier_said, earlier_text, last_entry, last_lines, last_said, or_before, own_entry, start_text}

-- nothing was written
pub appends_none : (o : Option (List ℕ)) → Appends o o []
appends_none None = tt
appends_none (Some os) = sym (append-nil os)

or_none : (o : Option Entry) → or_before o None ≡ o
or_none None = refl
or_none (Some e) = refl

or_assoc : (a b c : Option Entry) → or_before (or_before a b) c ≡ or_before a (or_before b c)
or_assoc None b c = refl
or_assoc (Some e) b c = refl

last_then : (station : ℕ) (es : List Entry) (e : Entry) → last_entry station (es ++ e ∷ []) ≡ or_before (own_entry station e) (last_entry station es)
last_then station [] e = sym (or_none (own_entry station e))
last_then station (x ∷ es) e =
    ap (λ (o : Option Entry). or_before o (own_entry station x)) (last_then station es e)
    ∙ or_assoc (own_entry station e) (last_entry station es) (own_entry station x)

-- the last with one entry more
pub last_more : (station : ℕ) (journal : List Entry) (i : ℕ) (e : Entry) (last new : Option Entry) → i < length journal → e ≡ get_or journal i e
    → new ≡ or_before (own_entry station e) last → last ≡ last_entry station (take i journal) → new ≡ last_entry station (take (i + 1) journal)
last_more station journal i e last new inside is this before =
    this ∙ (ap (or_before (own_entry station e)) before ∙ sym (
    ap (last_entry station) (take_more journal i e inside ∙ ap (λ (y : Entry). take i journal ++ y ∷ []) (sym is))
    ∙ last_then station (take i journal) e
    ))

-- one station more
pub lines_more : (n : ℕ) (journal : List Entry) → last_lines (n + 1) journal ≡ last_lines n journal ++ last_said (n + 1) (last_entry (n + 1) journal)
lines_more n journal =
    subst (λ (k : ℕ). last_lines k journal ≡ last_lines n journal ++ last_said k (last_entry k journal)) (sym (next_number n)) refl

pub lines_then : (old now new : Option (List ℕ)) (n : ℕ) (journal : List Entry) → Appends old now (last_lines n journal)
    → Appends now new (last_said (n + 1) (last_entry (n + 1) journal)) → Appends old new (last_lines (n + 1) journal)
lines_then old now new n journal first second =
    subst (λ (text : List ℕ). Appends old new text) (sym (lines_more n journal))
    (appends_then old now new (last_lines n journal) (last_said (n + 1) (last_entry (n + 1) journal)) first second)

-- what was printed first, and then what there is of the stations
pub again_then : (stations : ℕ) (journal : List Entry) (old mid new : Option (List ℕ)) → length journal ≢ 0 → Appends old mid (again_line (length journal))
    → Appends mid new (last_lines stations journal) → Appends old new (again_text stations journal)
again_then stations [] old mid new some first second = absurd (some refl)
again_then stations (e ∷ es) old mid new some first second =
    appends_then old mid new (again_line (length (e ∷ es))) (last_lines stations (e ∷ es)) first second

-- of no entries nothing is said
pub again_none : (stations : ℕ) (journal : List Entry) (o : Option (List ℕ)) → length journal ≡ 0 → Appends o o (again_text stations journal)
again_none stations [] o none = appends_none o
again_none stations (e ∷ es) o none = absurd (omega arith)

-- of a day without a command nothing is said
pub earlier_none : (earlier : ℕ) (o : Option (List ℕ)) → earlier ≡ 0 → Appends o o (earlier_text earlier)
earlier_none zero o none = appends_none o
earlier_none (suc n) o none = absurd (omega (arith, none))

pub earlier_some : (earlier : ℕ) (old new : Option (List ℕ)) → earlier ≢ 0 → Appends old new (earlier_line earlier) → Appends old new (earlier_text earlier)
earlier_some zero old new some said = absurd (some refl)
earlier_some (suc n) old new some said = said

-- a day without a command of its own tells of the one before
pub earlier_yet : (earlier : ℕ) (journal : List Entry) → length journal ≡ 0 → earlier_text earlier ≡ earlier_said earlier journal
earlier_yet earlier [] none = refl
earlier_yet earlier (e ∷ es) none = absurd (omega (arith, none))

pub earlier_over : (earlier : ℕ) (journal : List Entry) → length journal ≢ 0 → earlier_text 0 ≡ earlier_said earlier journal
earlier_over earlier [] some = absurd (some refl)
earlier_over earlier (e ∷ es) some = refl

-- both were put to a list
pub start_said : (a b c : List ℕ) (told earlier stations : ℕ) (journal : List Entry) → a ≡ [] → Appends (Some a) (Some b) (earlier_text told) → earlier_text told ≡ earlier_said earlier journal
    → Appends (Some b) (Some c) (again_text stations journal) → c ≡ start_text earlier stations journal
start_said a b c told earlier stations journal none first same second =
    let then_text : List ℕ = again_text stations journal in
    second ∙ ap (λ (l : List ℕ). l ++ then_text) (first ∙ ap (λ (l : List ℕ). l ++ earlier_text told) none ∙ same)

-- what holds of what was printed holds with what follows from it
pub told_as : {T E F : Type 0} (r : Result (Result T E) F) (P Q : Type 0) → (P → Q) → IfOk r (λ p. OnOk p P) → IfOk r (λ p. OnOk p Q)
told_as (Ok (Ok t)) P Q by told = by told
told_as (Ok (Err e)) P Q by told = tt
told_as (Err f) P Q by told = tt
