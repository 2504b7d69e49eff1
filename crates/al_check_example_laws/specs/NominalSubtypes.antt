-- A subtype `subtype Low is Level range 1 .. 2` of a type with the values 1 to 3, as the label of a variable.
use Rattle.std.specs.Prelude.{◌≡◌, ℕ, pos, List, [], ◌∷◌, Some, None, Ok, false}
use Rattle.al_view.specs.declared.types.Bounds.{Bounds}
use Rattle.al_view.specs.declared.view.ObjectPlace.{ObjectPlace}
use Rattle.al_view_typed.specs.ExpressionTrees.{TypedTree}
use Rattle.al_view_typed.specs.ExpressionTrees.TypedTree.{Labelled}
use Rattle.al_view_typed.specs.ExpressionTrees.FormTree.{NamedForm}
use Rattle.al_view_typed.specs.ExpressionTrees.NameTree.{ObjectName}
use Rattle.al_view_typed.specs.ExpressionTrees.ValueTree.{Checked}
use Rattle.al_view_typed.specs.StatementTrees.StatementFormTree.{AssignmentStatement}
use Rattle.al_view_typed.specs.StatementTrees.StatementTree.{Numbered}
use Rattle.al_view_typed.specs.declared.label.Labels.{Labels}
use Rattle.al_base_fault.specs.Judging.{next}
use Rattle.al_stmts.specs.Choosing.{AreRight}
use Rattle.al_stmts.specs.declared.choice.Choice.{Choice}
use Rattle.al_stmts.specs.declared.choice.Choice.TheVariants.{Range}
use Rattle.al_stmts.specs.Cases.{held_against}
use Rattle.al_stmts.specs.Simple.{assigned, target_of}

abbrev pub between : ℕ → ℕ → Bounds
between low high = record { low = pos low; high = pos high }

abbrev pub whole_type : Bounds
whole_type = between 1 3

abbrev pub subtype : Bounds
subtype = between 1 2

-- `when 1 => .. when 2 => ..`
abbrev pub one_and_two : List (List Choice)
one_and_two = (Range (between 1 1) ∷ []) ∷ (Range (between 2 2) ∷ []) ∷ []

-- the choices 1 and 2 are right for a variable of the subtype, and not for one of the whole type (ARM 5.4(7))
abbrev pub CasesCoverNominalSubtypes : Type 0
CasesCoverNominalSubtypes = AreRight (held_against (Some subtype) whole_type) one_and_two × (AreRight (held_against None whole_type) one_and_two → ⊥)

-- a value that is assigned to a variable is checked against the range of its nominal subtype (ARM 5.2(11))
abbrev pub AssignmentsCheckNominalSubtypes : Type 0
AssignmentsCheckNominalSubtypes =
    (line : ℕ) (labels : Labels) (place : ObjectPlace) (value : TypedTree) → labels.bounds ≡ Some subtype
    → next (target_of (Labelled labels (NamedForm (ObjectName place false)))) (λ target. assigned line target (Ok value))
    ≡ Ok (Numbered line (AssignmentStatement (ObjectName place false) labels.words (Checked value (Some subtype))))
