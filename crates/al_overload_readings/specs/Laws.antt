-- Laws of the faults of names (ARM 8.3, 4.1).
use Rattle.std.specs.Prelude.{◌≡◌, Bool, true, List, Result, Err, Option, None}
use Rattle.al_tree_grammar.specs.Grammar.{Label}
use Rattle.al_base_fault.specs.Faults.{earlier}
use Rattle.al_base_fault.specs.Judging.{fault_in}
use Rattle.al_overload_lookup.specs.Keys.{Denotations, is_none, not_visible}
use Rattle.al_tree_syntax.specs.ExpressionTrees.{ExpressionTree, ExpressionTree as e, Operator, Prefix}
use Rattle.al_overload_readings.specs.Texts.{term_of}

-- an identifier alone under which nothing is visible is E401
abbrev pub MissingNamesAreReported : Type 0
MissingNamesAreReported = (d : Denotations) (l : Label) → is_none (d.visible l.text) ≡ true → term_of d (e.Name l) ≡ Err (not_visible l)

-- of two operands the first fault is reported, whatever the operator is; of one operand its own
abbrev pub FirstFaultsAreReported : Type 0
FirstFaultsAreReported = (d : Denotations) (left right : ExpressionTree) (operator : Operator) →
    fault_in (term_of d (e.Infix left operator right)) ≡ earlier (fault_in (term_of d left)) (fault_in (term_of d right))

abbrev pub OwnFaultsAreReported : Type 0
OwnFaultsAreReported = (d : Denotations) (operand : ExpressionTree) (operator : Prefix) → fault_in (term_of d (e.Prefixed operator operand)) ≡ fault_in (term_of d operand)
