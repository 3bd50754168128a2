-- Files that are compared with a journal's lines, one after another.
use Rattle.std.proofs.Common.{◌≡◌, ℕ, ◌+◌, ◌<◌, ◌≤◌, Bool, true, false, cond, List, [], ◌∷◌, Some, None, length, drop, get_or, refl, sym, ap, ◌∙◌, arith}
use Rattle.std.specs.Prelude.{◌&&◌, ◌||◌}
use Rattle.std.proofs.lemmas.List.{drop_all, drop_more}
use Rattle.journal_file.specs.declared.sum.FileSum.{FileSum}
use Rattle.journal_file.specs.WholeText.{sums_and, BeginsWithSum, BeginsWithNoSum}
use Rattle.journal_file.proofs.TextLaws.{sum_one, sum_shorter}
use Rattle.audit_program.specs.Comparing.{AreLinesOf, are_of_run, first_other, is_of_run, same_content, same_file}

-- ---- a line that is cut off

-- the line that is first is that of the first file
pub record IsFirstOf (word : List ℕ) (sums : List FileSum) (sum : FileSum) (rest : List ℕ) : Type 0 where
  pub left : List FileSum
  pub all : sums ≡ sum ∷ left
  pub lines : AreLinesOf word rest left

pub first_of_lines : (word text : List ℕ) (sums : List FileSum) (sum : FileSum) (rest : List ℕ) → AreLinesOf word text sums → BeginsWithSum word text sum rest → IsFirstOf word sums sum rest
first_of_lines word text [] sum rest lines first =
    let shorter : length rest < length text = sum_shorter word text sum rest first in
    let none : length text ≡ 0 = ap length lines.is in
    absurd (omega (arith, shorter, none))
first_of_lines word text (told ∷ left) sum rest lines first =
    let same = sum_one word told sum (sums_and word left []) rest lines.are.0 first.small (sym lines.is ∙ first.is) in
    record { left = left; all = ap (λ (s : FileSum). s ∷ left) same.sum; lines = record { are = lines.are.1; is = sym same.rest } }

-- where no line is first, there are no files
pub none_of_lines : (word text : List ℕ) (sums : List FileSum) → AreLinesOf word text sums → BeginsWithNoSum word text → sums ≡ []
none_of_lines word text [] lines none = refl
none_of_lines word text (told ∷ left) lines none = absurd (none told (sums_and word left []) lines.are.0 lines.is)

-- ---- files in the places of lines

-- the first files are those of their lines: whether there is another is seen from the others
pub record HasCompared (word : List ℕ) (told files : List FileSum) (index : ℕ) (rest : List ℕ) : Type 0 where
  pub left : List FileSum
  pub lines : AreLinesOf word rest left
  pub same : first_other told files ≡ first_other left (drop index files)

pub none_compared : (word lines : List ℕ) (told files : List FileSum) → AreLinesOf word lines told → HasCompared word told files 0 lines
none_compared word lines told files are = record { left = told; lines = are; same = refl }

-- the files from one on
left_from : (files : List FileSum) (i : ℕ) (file : FileSum) → i < length files → file ≡ get_or files i file → drop i files ≡ file ∷ drop (i + 1) files
left_from files i file inside is = drop_more files i file inside ∙ ap (λ (f : FileSum). f ∷ drop (i + 1) files) (sym is)

passed : (sum file : FileSum) (left files : List FileSum) → same_content sum file ≡ true → first_other (sum ∷ left) (file ∷ files) ≡ first_other left files
passed sum file left files same = ap (λ (b : Bool). cond b (first_other left files) (Some file.path)) same

stopped : (sum file : FileSum) (left files : List FileSum) → same_content sum file ≡ false → first_other (sum ∷ left) (file ∷ files) ≡ Some file.path
stopped sum file left files other = ap (λ (b : Bool). cond b (first_other left files) (Some file.path)) other

-- one file more is the one of its line
pub one_compared : (word : List ℕ) (told files : List FileSum) (i : ℕ) (rest next : List ℕ) (sum file : FileSum) → HasCompared word told files i rest → i < length files → file ≡ get_or files i file → BeginsWithSum word rest sum next
    → same_content sum file ≡ true → HasCompared word told files (i + 1) next
one_compared word told files i rest next sum file h inside is first same =
    let cut = first_of_lines word rest h.left sum next h.lines first in
    record {
      left = cut.left;
      lines = cut.lines;
      same = h.same ∙ ((λ j. first_other (cut.all j) (left_from files i file inside is j)) ∙ passed sum file cut.left (drop (i + 1) files) same);
    }

-- a file is not the one of its line
pub other_found : (word : List ℕ) (told files : List FileSum) (i : ℕ) (rest next : List ℕ) (sum file : FileSum) → HasCompared word told files i rest → i < length files → file ≡ get_or files i file → BeginsWithSum word rest sum next
    → same_content sum file ≡ false → first_other told files ≡ Some file.path
other_found word told files i rest next sum file h inside is first other =
    let cut = first_of_lines word rest h.left sum next h.lines first in
    h.same ∙ ((λ j. first_other (cut.all j) (left_from files i file inside is j)) ∙ stopped sum file cut.left (drop (i + 1) files) other)

-- there is no line for a file
pub more_found : (word : List ℕ) (told files : List FileSum) (i : ℕ) (rest : List ℕ) (file : FileSum) → HasCompared word told files i rest → i < length files → file ≡ get_or files i file → BeginsWithNoSum word rest
    → first_other told files ≡ Some file.path
more_found word told files i rest file h inside is none =
    h.same ∙ (λ j. first_other (none_of_lines word rest h.left h.lines none j) (left_from files i file inside is j))

-- there is no file for a line
pub fewer_found : (word : List ℕ) (told files : List FileSum) (i : ℕ) (rest next : List ℕ) (sum : FileSum) → HasCompared word told files i rest → length files ≤ i → BeginsWithSum word rest sum next
    → first_other told files ≡ Some sum.path
fewer_found word told files i rest next sum h end first =
    let cut = first_of_lines word rest h.left sum next h.lines first in
    h.same ∙ (λ j. first_other (cut.all j) (drop_all i files end j))

-- all files are those of their lines
pub all_compared : (word : List ℕ) (told files : List FileSum) (i : ℕ) (rest : List ℕ) → HasCompared word told files i rest → length files ≤ i → BeginsWithNoSum word rest → first_other told files ≡ None
all_compared word told files i rest h end none = h.same ∙ (λ j. first_other (none_of_lines word rest h.left h.lines none j) (drop_all i files end j))

-- ---- a file among those of lines

-- it is not one of the first: whether it is one is seen from the others
pub record HasPassed (word : List ℕ) (wrote : List FileSum) (file : FileSum) (rest : List ℕ) : Type 0 where
  pub left : List FileSum
  pub lines : AreLinesOf word rest left
  pub same : is_of_run wrote file ≡ is_of_run left file

pub none_passed : (word lines : List ℕ) (wrote : List FileSum) (file : FileSum) → AreLinesOf word lines wrote → HasPassed word wrote file lines
none_passed word lines wrote file are = record { left = wrote; lines = are; same = refl }

or_first : (first : Bool) (rest : Bool) → first ≡ true → (first || rest) ≡ true
or_first true rest is = refl
or_first false rest is = absurd cc

or_rest : (first : Bool) (rest : Bool) → first ≡ false → (first || rest) ≡ rest
or_rest true rest is = absurd cc
or_rest false rest is = refl

pub one_passed : (word : List ℕ) (wrote : List FileSum) (file sum : FileSum) (rest next : List ℕ) → HasPassed word wrote file rest → BeginsWithSum word rest sum next → same_file sum file ≡ false → HasPassed word wrote file next
one_passed word wrote file sum rest next h first other =
    let cut = first_of_lines word rest h.left sum next h.lines first in
    record {
      left = cut.left;
      lines = cut.lines;
      same = h.same ∙ (ap (λ (sums : List FileSum). is_of_run sums file) cut.all ∙ or_rest (same_file sum file) (is_of_run cut.left file) other);
    }

pub is_among : (word : List ℕ) (wrote : List FileSum) (file sum : FileSum) (rest next : List ℕ) → HasPassed word wrote file rest → BeginsWithSum word rest sum next → same_file sum file ≡ true → is_of_run wrote file ≡ true
is_among word wrote file sum rest next h first same =
    let cut = first_of_lines word rest h.left sum next h.lines first in
    h.same ∙ (ap (λ (sums : List FileSum). is_of_run sums file) cut.all ∙ or_first (same_file sum file) (is_of_run cut.left file) same)

pub is_not_among : (word : List ℕ) (wrote : List FileSum) (file : FileSum) (rest : List ℕ) → HasPassed word wrote file rest → BeginsWithNoSum word rest → is_of_run wrote file ≡ false
is_not_among word wrote file rest h none = h.same ∙ ap (λ (sums : List FileSum). is_of_run sums file) (none_of_lines word rest h.left h.lines none)

-- ---- files that are all among them

and_first : (first : Bool) (rest : Bool) → first ≡ false → (first && rest) ≡ false
and_first true rest is = absurd cc
and_first false rest is = refl

and_rest : (first : Bool) (rest : Bool) → first ≡ true → (first && rest) ≡ rest
and_rest true rest is = refl
and_rest false rest is = absurd cc

pub one_more_of_run : (wrote files : List FileSum) (i : ℕ) (file : FileSum) → are_of_run wrote files ≡ are_of_run wrote (drop i files) → i < length files → file ≡ get_or files i file → is_of_run wrote file ≡ true
    → are_of_run wrote files ≡ are_of_run wrote (drop (i + 1) files)
one_more_of_run wrote files i file h inside is of_run =
    h ∙ (ap (are_of_run wrote) (left_from files i file inside is) ∙ and_rest (is_of_run wrote file) (are_of_run wrote (drop (i + 1) files)) of_run)

pub one_not_of_run : (wrote files : List FileSum) (i : ℕ) (file : FileSum) → are_of_run wrote files ≡ are_of_run wrote (drop i files) → i < length files → file ≡ get_or files i file → is_of_run wrote file ≡ false
    → are_of_run wrote files ≡ false
one_not_of_run wrote files i file h inside is other =
    h ∙ (ap (are_of_run wrote) (left_from files i file inside is) ∙ and_first (is_of_run wrote file) (are_of_run wrote (drop (i + 1) files)) other)

pub all_of_run : (wrote files : List FileSum) (i : ℕ) → are_of_run wrote files ≡ are_of_run wrote (drop i files) → length files ≤ i → are_of_run wrote files ≡ true
all_of_run wrote files i h end = h ∙ ap (are_of_run wrote) (drop_all i files end)
