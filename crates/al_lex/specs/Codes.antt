-- The numbers of the lexical faults.
use Rattle.std.specs.Prelude.{ℕ}
use Rattle.al_lex.specs.declared.token.LexCode.{LexCode}
use Rattle.al_lex.specs.declared.token.LexCode.TheVariants.{IllegalCharacter, BadIdentifier, BadNumber, NumberTooLarge, BadString, IdentifierTooLong}

abbrev pub number_of : LexCode → ℕ
number_of IllegalCharacter = 1
number_of BadIdentifier = 2
number_of BadNumber = 3
number_of NumberTooLarge = 4
number_of BadString = 5
number_of IdentifierTooLong = 6
