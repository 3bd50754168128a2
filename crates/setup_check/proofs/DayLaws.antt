-- Days that are open, one after another.
use Rattle.std.proofs.Common.{◌≡◌, ℕ, Bool, true, false, not, cond, List, [], ◌∷◌, ◌++◌, Option, Result, Ok, Err, refl, ap, sym, subst, ◌∙◌, append_assoc}
use Rattle.std.specs.Prelude.{IfOk}
use Rattle.std.proofs.lemmas.Bool.{false≢true}
use Rattle.std.proofs.lemmas.List.{append-nil}
use Rattle.folders.specs.declared.named.NamedFile.{NamedFile}
use Rattle.folders.specs.Files.{IsFileOf}
use Rattle.station_lines.specs.declared.setup.entry.SetupEntry.{SetupEntry}
use Rattle.setup_check.specs.declared.open_days.LogFinding.{LogFinding}
use Rattle.setup_check.specs.declared.open_days.LogFinding.TheVariants.{Closed, Open, Unread}
use Rattle.setup_check.specs.OpenDays.{day_line, day_lines, log_paths, AreDaysTold, AreLogFindings, IsFoundOfLog, IsLogFinding}

-- a path that is known is not added,
pub known_path : (known : Bool) (paths : List (List ℕ)) (path : List ℕ) → false ≡ not known → cond known paths (paths ++ path ∷ []) ≡ paths
known_path true paths path e = refl
known_path false paths path e = absurd (false≢true e)

-- and one that isn't is
pub new_path : (known : Bool) (paths : List (List ℕ)) (path : List ℕ) → true ≡ not known → cond known paths (paths ++ path ∷ []) ≡ paths ++ path ∷ []
new_path true paths path e = absurd (false≢true (sym e))
new_path false paths path e = refl

-- what is found of the bytes of a log that was loaded,
log_of_path : (files : Option (List NamedFile)) (path log : List ℕ) (before after : Option ℕ) (finding : LogFinding) → IsFileOf files path log → after ≡ before
    → IsFoundOfLog log finding → IsLogFinding files path before after finding
log_of_path files path log before after (Open count) found same is = (log, found, is, same)
log_of_path files path log before after Closed found same is = (log, found, is, same)
log_of_path files path log before after (Unread why) found same is = absurd is

-- is found of the log of its path
pub found_log : {E : Type 0} (r : Result LogFinding E) (files : Option (List NamedFile)) (path log own : List ℕ) (before after : Option ℕ) → IsFileOf files path log → own ≡ log
    → after ≡ before → IfOk r (IsFoundOfLog own) → IfOk r (IsLogFinding files path before after)
found_log (Ok finding) files path log own before after found is same h = log_of_path files path log before after finding found same (subst (λ (l : List ℕ). IsFoundOfLog l finding) is h)
found_log (Err e) files path log own before after found is same h = tt

-- the findings of the logs of some paths were told
pub record HasToldDays (files : Option (List NamedFile)) (before after : Option ℕ) (paths : List (List ℕ)) (text : List ℕ) : Type 0 where
  pub findings : List LogFinding
  pub found : AreLogFindings files before after paths findings
  pub told : text ≡ day_lines paths findings

pub none_told : (files : Option (List NamedFile)) (count : Option ℕ) → HasToldDays files count count [] []
none_told files count = record { findings = []; found = refl; told = refl }

findings_more : (files : Option (List NamedFile)) (before next after : Option ℕ) (paths : List (List ℕ)) (findings : List LogFinding) (path : List ℕ) (finding : LogFinding)
    → AreLogFindings files before next paths findings → IsLogFinding files path next after finding → AreLogFindings files before after (paths ++ path ∷ []) (findings ++ finding ∷ [])
findings_more files before next after [] [] path finding h k = (after, subst (λ (n : Option ℕ). IsLogFinding files path n after finding) h k, refl)
findings_more files before next after [] (f ∷ fs) path finding h k = absurd h
findings_more files before next after (p ∷ ps) [] path finding h k = absurd h
findings_more files before next after (p ∷ ps) (f ∷ fs) path finding h k = (h.0, h.1, findings_more files h.0 next after ps fs path finding h.2 k)

lines_more : (files : Option (List NamedFile)) (before after : Option ℕ) (paths : List (List ℕ)) (findings : List LogFinding) (path : List ℕ) (finding : LogFinding)
    → AreLogFindings files before after paths findings → day_lines (paths ++ path ∷ []) (findings ++ finding ∷ []) ≡ day_lines paths findings ++ day_line path finding
lines_more files before after [] [] path finding h = append-nil (day_line path finding)
lines_more files before after [] (f ∷ fs) path finding h = absurd h
lines_more files before after (p ∷ ps) [] path finding h = absurd h
lines_more files before after (p ∷ ps) (f ∷ fs) path finding h =
    ap (λ (l : List ℕ). day_line p f ++ l) (lines_more files h.0 after ps fs path finding h.2) ∙ sym (append_assoc (day_line p f) (day_lines ps fs) (day_line path finding))

-- one log more
pub days_more : (files : Option (List NamedFile)) (before next after : Option ℕ) (paths : List (List ℕ)) (text new path : List ℕ) (finding : LogFinding)
    → HasToldDays files before next paths text → IsLogFinding files path next after finding → new ≡ text ++ day_line path finding → HasToldDays files before after (paths ++ path ∷ []) new
days_more files before next after paths text new path finding t found grows = record {
  findings = t.findings ++ finding ∷ [];
  found = findings_more files before next after paths t.findings path finding t.found found;
  told = grows ∙ ap (λ (l : List ℕ). l ++ day_line path finding) t.told ∙ sym (lines_more files before next paths t.findings path finding t.found);
}

-- the logs of all paths
pub all_told : (files : Option (List NamedFile)) (before after : Option ℕ) (entries : List SetupEntry) (paths : List (List ℕ)) (text : List ℕ) → paths ≡ log_paths entries
    → HasToldDays files before after paths text → AreDaysTold files before after entries text
all_told files before after entries paths text is t =
    let all = subst (λ (ps : List (List ℕ)). HasToldDays files before after ps text) is t in
    record { findings = all.findings; found = all.found; told = all.told }
