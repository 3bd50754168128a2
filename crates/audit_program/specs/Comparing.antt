-- Whether the files of an audit are those of which a journal speaks.
use Rattle.std.specs.Prelude.{◌≡◌, ℕ, ◌==◌, Bool, true, false, ◌&&◌, ◌||◌, bytes_eq, List, [], ◌∷◌, Option, Some, None, if◌then◌else◌}
use Rattle.std.specs.List.{AllByRecursion}
use Rattle.journal_file.specs.declared.sum.FileSum.{FileSum}
use Rattle.journal_file.specs.WholeText.{sums_and, IsSum}

-- these are the lines of files, each behind the word
pub record AreLinesOf (word lines : List ℕ) (sums : List FileSum) : Type 0 where
  pub are : AllByRecursion IsSum sums
  pub is : lines ≡ sums_and word sums []

-- of any files that have these lines, this is so
abbrev pub IfLinesOf : List ℕ → List ℕ → (List FileSum → Type 0) → Type 0
IfLinesOf word lines holds = (sums : List FileSum) → AreLinesOf word lines sums → holds sums

-- two files are as long, with the same digest
abbrev pub same_content : FileSum → FileSum → Bool
same_content told file = (told.length == file.length) && bytes_eq told.digest file.digest

-- The path of the first file that is not the one that the journal tells in its place: these are compared by their contents, since
-- an audit may be started elsewhere. Where one list is shorter, the first file of the other that it has not.
abbrev pub first_other : List FileSum → List FileSum → Option (List ℕ)
first_other [] [] = None
first_other [] (file ∷ files) = Some file.path
first_other (told ∷ more) [] = Some told.path
first_other (told ∷ more) (file ∷ files) = if same_content told file then first_other more files else Some file.path

-- two files have the same name and the same content
abbrev pub same_file : FileSum → FileSum → Bool
same_file told file = bytes_eq told.path file.path && same_content told file

-- a file is one of those that the journal tells
abbrev pub is_of_run : List FileSum → FileSum → Bool
is_of_run [] file = false
is_of_run (told ∷ more) file = same_file told file || is_of_run more file

-- each of some files is one of those that the journal tells
abbrev pub are_of_run : List FileSum → List FileSum → Bool
are_of_run wrote [] = true
are_of_run wrote (file ∷ files) = is_of_run wrote file && are_of_run wrote files
