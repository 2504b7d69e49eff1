-- The rules that a diagnostic can say are broken, with their numbers.
use Rattle.std.specs.Prelude.{ℕ}
use Rattle.al_base.specs.declared.rule.Rule.{Rule}
use Rattle.al_base.specs.declared.rule.Rule.TheVariants.{IllegalCharacter, BadIdentifier, BadNumber, NumberTooLarge, BadString, IdentifierTooLong, Syntax, FileName, MissingUnit, DependenceCycle, PrivateChild, MissingParent, NoStub, ReservedUnit, DependsOnFaults, BodyDoesNotFit, Duplicate, MissingCompletion, NotConformant, NotStatic, OutOfLimits, NotAllowedHere, BadPragma, EndName, NoValue, NotComplete, NotVisible, NoInterpretation, Ambiguous, WrongKind, StaticFailure, NotAVariable, BadReturn, BadExit, BadChoices, NoReturn, NotLibraryLevel, SecondEntry, BadBarrier, OwnOperation, NotYet}

unfoldable pub number_of : Rule → ℕ
number_of IllegalCharacter = 1
number_of BadIdentifier = 2
number_of BadNumber = 3
number_of NumberTooLarge = 4
number_of BadString = 5
number_of IdentifierTooLong = 6
number_of Syntax = 101
number_of FileName = 201
number_of MissingUnit = 202
number_of DependenceCycle = 203
number_of PrivateChild = 204
number_of MissingParent = 205
number_of NoStub = 206
number_of ReservedUnit = 207
number_of DependsOnFaults = 208
number_of BodyDoesNotFit = 209
number_of Duplicate = 301
number_of MissingCompletion = 302
number_of NotConformant = 303
number_of NotStatic = 304
number_of OutOfLimits = 305
number_of NotAllowedHere = 306
number_of BadPragma = 307
number_of EndName = 308
number_of NoValue = 309
number_of NotComplete = 310
number_of NotVisible = 401
number_of NoInterpretation = 402
number_of Ambiguous = 403
number_of WrongKind = 404
number_of StaticFailure = 405
number_of NotAVariable = 406
number_of BadReturn = 501
number_of BadExit = 502
number_of BadChoices = 503
number_of NoReturn = 504
number_of NotLibraryLevel = 601
number_of SecondEntry = 602
number_of BadBarrier = 603
number_of OwnOperation = 604
number_of NotYet = 700
