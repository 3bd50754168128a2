-- What was said on standard error.
use Rattle.std.proofs.Common.{◌≡◌, ℕ, List, Ok, Err, Result, refl, subst, sym, inl, inr}
use Rattle.std.specs.Prelude.{Option, OnErr}
use Rattle.std.proofs.KnownBytes.{Keeps-refl}
use Rattle.clap.specs.Words.{Text}
use Rattle.catalogue_core.specs.Replay.{History}
use Rattle.files_in_place.specs.Folder.{Folder}
use Rattle.folders.specs.declared.named.NamedFile.{NamedFile}
use Rattle.live_program.specs.Asked.{IsAskedIn}
use Rattle.live_program.specs.Consoles.{AppendsFront}
use Rattle.live_program.specs.Greetings.{start_text}
use Rattle.live_program.specs.Lives.{IsFound}
use Rattle.live_program.specs.Openings.{AreTablesOpened}
use Rattle.live_program.specs.Sayings.{HasSaidAtStart, HasSaidFor, HasToldFound, IsKeptText, IsSaidOf}
use Rattle.live_program.specs.declared.options.Options.{Options}

pub nothing_said : (is_text : List ℕ → Type 0) (old : Option (List ℕ)) → IsSaidOf is_text old old
nothing_said is_text old = inl (Keeps-refl old)

pub first_said : (is_text : List ℕ → Type 0) (old now : Option (List ℕ)) (text : List ℕ) → is_text text → AppendsFront old now text → IsSaidOf is_text old now
first_said is_text old now text is front = inr (text, is, front)

-- nothing was said at a start
pub silent_start : (files : Option (List NamedFile)) (options : Options) (old : Option (List ℕ)) → HasSaidAtStart files options old old
silent_start files options old = record { between = old; kept_files = inl (Keeps-refl old); again = inl (Keeps-refl old) }

-- of the log nothing was said
pub start_warned : (files : Option (List NamedFile)) (options : Options) (old now : Option (List ℕ)) → IsSaidOf (IsKeptText files options.setup.now) old now → HasSaidAtStart files options old now
start_warned files options old now warned = record { between = now; kept_files = warned; again = inl (Keeps-refl now) }

-- at an error nothing more was said
pub warned_alone : {T E : Type 0} (r : Result T E) (files : Option (List NamedFile)) (setup : List ℕ) (old mid now : Option (List ℕ)) → IsSaidOf (IsKeptText files setup) old mid → OnErr r (now ≡ mid)
    → OnErr r (IsSaidOf (IsKeptText files setup) old now)
warned_alone (Ok t) files setup old mid now warned same = tt
warned_alone (Err e) files setup old mid now warned same = subst (λ (o : Option (List ℕ)). IsSaidOf (IsKeptText files setup) old o) (sym same) warned

-- both were said
pub start_said : (files : Option (List NamedFile)) (options : Options) (old between now : Option (List ℕ)) (last : History) (earlier : ℕ) → IsSaidOf (IsKeptText files options.setup.now) old between
    → AreTablesOpened files options.setup.now options.reindex last.opened → AppendsFront between now (start_text earlier last.opened.stations last.journal) → HasSaidAtStart files options old now
start_said files options old between now last earlier warned opened front = record {
  between = between;
  kept_files = warned;
  again = inr (start_text earlier last.opened.stations last.journal, (last, earlier, opened, refl), front);
}

-- of what was found in a folder nothing was said
pub silent_found : (files : Option (List NamedFile)) (options : Options) (folder : Folder) (old : Option (List ℕ)) → HasToldFound files options folder old old
silent_found files options folder old = record { between = old; kept_files = inl (Keeps-refl old); found = inl (Keeps-refl old) }

pub found_warned : (files : Option (List NamedFile)) (options : Options) (folder : Folder) (old now : Option (List ℕ)) → IsSaidOf (IsKeptText files options.setup.now) old now
    → HasToldFound files options folder old now
found_warned files options folder old now warned = record { between = now; kept_files = warned; found = inl (Keeps-refl now) }

-- both were said
pub found_told : (files : Option (List NamedFile)) (options : Options) (folder : Folder) (old between now : Option (List ℕ)) (head : List ℕ) (first : History) (earlier : ℕ)
    → IsSaidOf (IsKeptText files options.setup.now) old between → IsFound files options folder head first earlier
    → AppendsFront between now (start_text earlier first.opened.stations first.journal) → HasToldFound files options folder old now
found_told files options folder old between now head first earlier warned found front = record {
  between = between;
  kept_files = warned;
  found = inr (start_text earlier first.opened.stations first.journal, (head, first, earlier, found, refl), front);
}

-- the words ask for it
pub said_for : (files : Option (List NamedFile)) (words : List Text) (options : Options) (old now : Option (List ℕ)) → IsAskedIn words options → HasSaidAtStart files options old now
    → HasSaidFor files words old now
said_for files words options old now asked said = inr (options, asked, said)

pub silent_for : (files : Option (List NamedFile)) (words : List Text) (old : Option (List ℕ)) → HasSaidFor files words old old
silent_for files words old = inl (Keeps-refl old)
