-- What diagnostics print for rules.
use Rattle.std.specs.Prelude.{ℕ, ◌==◌, List, [], ◌∷◌, Option, codes, unwrap_or}
use Rattle.std.specs.List.{find}
use Rattle.al_base.specs.Rules.{number_of}
use Rattle.al_base.specs.declared.rule.Rule.{Rule}
use Rattle.al_base.specs.declared.rule.Rule.TheVariants.{IllegalCharacter, BadIdentifier, BadNumber, NumberTooLarge, BadString, IdentifierTooLong, Syntax, FileName, MissingUnit, DependenceCycle, PrivateChild, MissingParent, NoStub, ReservedUnit, DependsOnFaults, BodyDoesNotFit, Duplicate, MissingCompletion, NotConformant, NotStatic, OutOfLimits, NotAllowedHere, BadPragma, EndName, NoValue, NotComplete, NotVisible, NoInterpretation, Ambiguous, WrongKind, StaticFailure, NotAVariable, BadReturn, BadExit, BadChoices, NoReturn, NotLibraryLevel, SecondEntry, BadBarrier, OwnOperation, NotYet}

-- the number, and what is wrong in a few words
unfoldable pub words_of : Rule → List ℕ
words_of IllegalCharacter = codes "E001 illegal character"
words_of BadIdentifier = codes "E002 bad identifier"
words_of BadNumber = codes "E003 bad number"
words_of NumberTooLarge = codes "E004 number too large"
words_of BadString = codes "E005 bad string"
words_of IdentifierTooLong = codes "E006 identifier too long"
words_of Syntax = codes "E101 syntax"
words_of FileName = codes "E201 file name"
words_of MissingUnit = codes "E202 missing unit"
words_of DependenceCycle = codes "E203 dependence cycle"
words_of PrivateChild = codes "E204 private child"
words_of MissingParent = codes "E205 missing parent"
words_of NoStub = codes "E206 no stub"
words_of ReservedUnit = codes "E207 reserved unit"
words_of DependsOnFaults = codes "E208 depends on faults"
words_of BodyDoesNotFit = codes "E209 body does not fit"
words_of Duplicate = codes "E301 duplicate"
words_of MissingCompletion = codes "E302 missing completion"
words_of NotConformant = codes "E303 not conformant"
words_of NotStatic = codes "E304 not static"
words_of OutOfLimits = codes "E305 out of limits"
words_of NotAllowedHere = codes "E306 not allowed here"
words_of BadPragma = codes "E307 bad pragma"
words_of EndName = codes "E308 end name"
words_of NoValue = codes "E309 no value"
words_of NotComplete = codes "E310 not complete"
words_of NotVisible = codes "E401 not visible"
words_of NoInterpretation = codes "E402 no interpretation"
words_of Ambiguous = codes "E403 ambiguous"
words_of WrongKind = codes "E404 wrong kind"
words_of StaticFailure = codes "E405 static failure"
words_of NotAVariable = codes "E406 not a variable"
words_of BadReturn = codes "E501 bad return"
words_of BadExit = codes "E502 bad exit"
words_of BadChoices = codes "E503 bad choices"
words_of NoReturn = codes "E504 no return"
words_of NotLibraryLevel = codes "E601 not library level"
words_of SecondEntry = codes "E602 second entry"
words_of BadBarrier = codes "E603 bad barrier"
words_of OwnOperation = codes "E604 own operation"
words_of NotYet = codes "E700 not yet"

-- each rule, by their numbers
unfoldable pub all_rules : List Rule
all_rules =
    IllegalCharacter ∷ BadIdentifier ∷ BadNumber ∷ NumberTooLarge ∷ BadString ∷ IdentifierTooLong ∷ Syntax ∷
    FileName ∷ MissingUnit ∷ DependenceCycle ∷ PrivateChild ∷ MissingParent ∷ NoStub ∷ ReservedUnit ∷
    DependsOnFaults ∷ BodyDoesNotFit ∷ Duplicate ∷ MissingCompletion ∷ NotConformant ∷ NotStatic ∷
    OutOfLimits ∷ NotAllowedHere ∷ BadPragma ∷ EndName ∷ NoValue ∷ NotComplete ∷ NotVisible ∷ NoInterpretation ∷ Ambiguous ∷
    WrongKind ∷ StaticFailure ∷ NotAVariable ∷ BadReturn ∷ BadExit ∷ BadChoices ∷ NoReturn ∷ NotLibraryLevel ∷
    SecondEntry ∷ BadBarrier ∷ OwnOperation ∷ NotYet ∷ []

-- the rule of this number
unfoldable pub rule_of : ℕ → Option Rule
rule_of number = find (λ r. number_of r == number) all_rules

-- what the rule of this number says when it is broken; of a number that no rule has, that the unit isn't compiled yet
abbrev pub message_of : ℕ → List ℕ
message_of number = words_of (unwrap_or (rule_of number) NotYet)
