-- What a fault is called, and what it says.
use Rattle.std.specs.Prelude.{ℕ, List, codes, ◌++◌}
use Rattle.std.specs.Fmt.{decimal}
use Rattle.key_expr.specs.declared.fault.ExprFault.{ExprFault}
use Rattle.key_expr.specs.declared.fault.ExprFault.TheVariants as fault

-- the name of a fault, without the number that one carries
abbrev pub expression_name : ExprFault → List ℕ
expression_name fault.ExpressionTooLong = codes "ExpressionTooLong"
expression_name (fault.BadSyntax offset) = codes "BadSyntax"
expression_name fault.NoSuchField = codes "NoSuchField"
expression_name fault.NotCharacter = codes "NotCharacter"
expression_name fault.BadArgument = codes "BadArgument"
expression_name fault.KeyTooLong = codes "KeyTooLong"
expression_name fault.NoMemory = codes "NoMemory"

-- why a text is no key expression, for a reader
abbrev pub expression_words : ExprFault → List ℕ
expression_words fault.ExpressionTooLong = codes "the expression is too long"
expression_words (fault.BadSyntax offset) = codes "bad syntax at byte " ++ decimal offset
expression_words fault.NoSuchField = codes "there is no such field"
expression_words fault.NotCharacter = codes "a field is of the wrong kind"
expression_words fault.BadArgument = codes "a function's argument is out of range"
expression_words fault.KeyTooLong = codes "the key is too long"
expression_words fault.NoMemory = codes "out of memory"
