-- Commands that compare alike are the same.
use Rattle.std.proofs.Common.{◌≡◌, ℕ, ℤ, Bool, ◌&&◌, List, nat_eq}
use Rattle.std.specs.Prelude.{bytes_eq}
use Rattle.std.specs.Ordering.{int_eq}
use Rattle.std.specs.Bool.{Decides}
use Rattle.std.specs.Cmp.{booleans_Decides}
use Rattle.std.proofs.Math.Bool.{beq}
use Rattle.std.proofs.lemmas.Bool.Decides.{Decides-eqb, Decides-int_eq}
use Rattle.std.proofs.lemmas.Slice.Eq.{bytes_eq-Decides}
use Rattle.dbf_fields.specs.declared.literal.Literal.{Literal}
use Rattle.dbf_fields.specs.Same.{literal_decides}
use Rattle.dbf_fields.specs.contracts.literal.LiteralPartialEq.TheImpl.{ghosts as literal_compares}
use Rattle.catalogue_core.specs.declared.command.Command.{Command}
use Rattle.catalogue_core.specs.declared.command.Question.{Question}
use Rattle.catalogue_core.specs.contracts.command.Question.{the_type as question}
use Rattle.catalogue_core.specs.contracts.command.QuestionPartialEq.TheImpl.{ghosts as question_compares}
use Rattle.catalogue_core.specs.contracts.command.Command.{enum as command}
use Rattle.catalogue_core.specs.contracts.command.CommandPartialEq.TheImpl.{ghosts as command_compares}
use denote.Enum.Bare.{same_true, true_same}
use Rattle.catalogue_core.proofs.SameValues.{same_value, none, one, two}

-- ---- what a command has beside its verb: nothing, or one or two of these

same_question : (xs ys : Question × Unit {0}) → Decides (question_compares.eq xs.0 ys.0) (xs ≡ ys)
same_question = one question_compares.eq (λ x y. (same_true question tt x y, true_same question x y))

number : (xs ys : ℕ × Unit {0}) → Decides (nat_eq xs.0 ys.0) (xs ≡ ys)
number = one nat_eq Decides-eqb

bytes : (xs ys : List ℕ × Unit {0}) → Decides (bytes_eq xs.0 ys.0) (xs ≡ ys)
bytes = one bytes_eq bytes_eq-Decides

integer : (xs ys : ℤ × Unit {0}) → Decides (int_eq xs.0 ys.0) (xs ≡ ys)
integer = one int_eq Decides-int_eq

bytes_and_flag : (xs ys : List ℕ × (Bool × Unit {0})) → Decides (bytes_eq xs.0 ys.0 && beq xs.1.0 ys.1.0) (xs ≡ ys)
bytes_and_flag = two bytes_eq beq bytes_eq-Decides booleans_Decides

bytes_and_bytes : (xs ys : List ℕ × (List ℕ × Unit {0})) → Decides (bytes_eq xs.0 ys.0 && bytes_eq xs.1.0 ys.1.0) (xs ≡ ys)
bytes_and_bytes = two bytes_eq bytes_eq bytes_eq-Decides bytes_eq-Decides

bytes_and_literal : (xs ys : List ℕ × (Literal × Unit {0})) → Decides (bytes_eq xs.0 ys.0 && literal_compares.eq xs.1.0 ys.1.0) (xs ≡ ys)
bytes_and_literal = two bytes_eq literal_compares.eq bytes_eq-Decides literal_decides

-- a command is the same where its verb and what it has are
pub same_command : (x y : Command) → Decides (command_compares.eq x y) (x ≡ y)
same_command x y = same_value command _ (search (none, number, bytes, integer, bytes_and_flag, bytes_and_bytes, bytes_and_literal, same_question)) x y
