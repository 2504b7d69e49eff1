-- The rules that the check of a unit can find broken, among all rules.
use Rattle.std.specs.Prelude.{ℕ, Bool, nat_lt}
use Rattle.al_base.specs.Rules.{number_of}
use Rattle.al_base.specs.declared.rule.Rule.{Rule}
use Rattle.al_base.specs.declared.rule.Rule.TheVariants as rules
use Rattle.al_base_fault.specs.declared.check_rule.CheckRule.{CheckRule}
use Rattle.al_base_fault.specs.declared.check_rule.CheckRule.TheVariants.{Duplicate, MissingCompletion, NotConformant, NotStatic, OutOfLimits, NotAllowedHere, BadPragma, EndName, NoValue, NotComplete, NotVisible, NoInterpretation, Ambiguous, WrongKind, StaticFailure, NotAVariable, BadReturn, BadExit, BadChoices, NoReturn, NotLibraryLevel, SecondEntry, BadBarrier, OwnOperation, NotYet}

abbrev pub as_rule : CheckRule → Rule
as_rule Duplicate = rules.Duplicate
as_rule MissingCompletion = rules.MissingCompletion
as_rule NotConformant = rules.NotConformant
as_rule NotStatic = rules.NotStatic
as_rule OutOfLimits = rules.OutOfLimits
as_rule NotAllowedHere = rules.NotAllowedHere
as_rule BadPragma = rules.BadPragma
as_rule EndName = rules.EndName
as_rule NoValue = rules.NoValue
as_rule NotComplete = rules.NotComplete
as_rule NotVisible = rules.NotVisible
as_rule NoInterpretation = rules.NoInterpretation
as_rule Ambiguous = rules.Ambiguous
as_rule WrongKind = rules.WrongKind
as_rule StaticFailure = rules.StaticFailure
as_rule NotAVariable = rules.NotAVariable
as_rule BadReturn = rules.BadReturn
as_rule BadExit = rules.BadExit
as_rule BadChoices = rules.BadChoices
as_rule NoReturn = rules.NoReturn
as_rule NotLibraryLevel = rules.NotLibraryLevel
as_rule SecondEntry = rules.SecondEntry
as_rule BadBarrier = rules.BadBarrier
as_rule OwnOperation = rules.OwnOperation
as_rule NotYet = rules.NotYet

abbrev pub rule_number : CheckRule → ℕ
rule_number r = number_of (as_rule r)

-- which of two comes first, by their numbers
unfoldable pub ranks_before : CheckRule → CheckRule → Bool
ranks_before r other = nat_lt (rule_number r) (rule_number other)
