-- Which lines are bad.
use Rattle.std.proofs.Common.{◌≡◌, ℕ, List, true, false, refl, ap, ◌∙◌, sym, subst}
use mathlib.Core.Logic.{◌⊎◌, inl, inr}
use Rattle.std.proofs.lemmas.Bool.{false≢true}
use Rattle.catalogue_core.specs.declared.command.Command.TheVariants as command
use Rattle.station_lines.specs.declared.script.line.Line.{Line}
use Rattle.station_lines.specs.declared.script.line.Line.TheVariants.{Run, Status, Blank}
use Rattle.station_lines.specs.Script.Meaning.{Means}
use Rattle.station_lines.specs.Script.Keeping.{keeps_text}
use Rattle.station_lines.specs.Script.Reading.{read}
use Rattle.station_lines.specs.Script.BadLines.{is_bad}
use Rattle.station_lines.proofs.ScriptLaws.MeaningLaws.{read_means, other_means}

bad_or_other : (line : Line) → (line ≡ Run command.Bad) ⊎ (is_bad line ≡ false)
bad_or_other (Run (command.Select n)) = inr refl
bad_or_other (Run (command.UseTable n x)) = inr refl
bad_or_other (Run command.CloseTable) = inr refl
bad_or_other (Run (command.Go n)) = inr refl
bad_or_other (Run command.Top) = inr refl
bad_or_other (Run command.Bottom) = inr refl
bad_or_other (Run (command.Skip n)) = inr refl
bad_or_other (Run (command.Seek t)) = inr refl
bad_or_other (Run (command.Order n)) = inr refl
bad_or_other (Run command.AppendBlank) = inr refl
bad_or_other (Run (command.Replace f l)) = inr refl
bad_or_other (Run (command.Memo f t)) = inr refl
bad_or_other (Run command.Delete) = inr refl
bad_or_other (Run command.Recall) = inr refl
bad_or_other (Run command.Pack) = inr refl
bad_or_other (Run (command.IndexOn x n)) = inr refl
bad_or_other (Run command.Unlock) = inr refl
bad_or_other (Run command.UnlockAll) = inr refl
bad_or_other (Run (command.Show f)) = inr refl
bad_or_other (Run command.RecordLock) = inr refl
bad_or_other (Run (command.RecordLocks ns)) = inr refl
bad_or_other (Run command.FileLock) = inr refl
bad_or_other (Run (command.Ask q)) = inr refl
bad_or_other (Run command.Bad) = inl refl
bad_or_other Status = inr refl
bad_or_other Blank = inr refl

kept_by : (line : Line) → keeps_text line ≡ true → (line ≡ Run command.Bad) ⊎ (is_bad line ≡ false) → false ≡ is_bad line
kept_by line kept (inl bad) = absurd (false≢true (sym (ap keeps_text bad) ∙ kept))
kept_by line kept (inr good) = sym good

-- a line that keeps a text is not bad
pub keeping_is_good : (line : Line) → keeps_text line ≡ true → false ≡ is_bad line
keeping_is_good line kept = kept_by line kept (bad_or_other line)

means_by : (line : List ℕ) → is_bad (read line) ≡ true → (read line ≡ Run command.Bad) ⊎ (is_bad (read line) ≡ false) → Means line (Run command.Bad)
means_by line bad (inl is) = subst (Means line) is (read_means line)
means_by line bad (inr good) = absurd (false≢true (sym good ∙ bad))

-- a line of which Bad is made means it
pub bad_means : (line : List ℕ) → is_bad (read line) ≡ true → Means line (Run command.Bad)
bad_means line bad = means_by line bad (bad_or_other (read line))

-- of a line that means Bad it is made
pub means_bad : (line : List ℕ) → Means line (Run command.Bad) → is_bad (read line) ≡ true
means_bad line m = ap is_bad (sym (other_means line (Run command.Bad) m))
