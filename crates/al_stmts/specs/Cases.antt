-- Case statements (ARM 5.4): their choices, and then alternative by alternative.
use Rattle.std.specs.Prelude.{ℕ, Bool, List, [], ◌∷◌, ◌++◌, map, Option, Some, None, Result, Ok, Err, if◌then◌else◌}
use Rattle.std.specs.List.{filter_map}
use Rattle.al_base.specs.declared.place.Place.{Place}
use Rattle.al_base_fault.specs.declared.check_rule.CheckRule.TheVariants.{BadChoices}
use Rattle.al_view.specs.declared.types.Bounds.{Bounds}
use Rattle.al_base_fault.specs.Faults.{earlier, fault_at}
use Rattle.al_base_fault.specs.Judging.{next, unless}
use Rattle.al_base_fault.specs.declared.fault.Fault.{Fault}
use Rattle.al_stmts.specs.FaultLists.{followed, no_fault}
use Rattle.al_stmts.specs.declared.fault_list.FaultList.{FaultList}
use Rattle.al_stmts.specs.Choosing.{AreRight, has_others, range_of}
use Rattle.al_stmts.specs.declared.choice.Choice.{Choice}
use Rattle.al_stmts.specs.declared.choice.Selector.{Selector}
use Rattle.al_stmts.specs.declared.choice.Selector.TheVariants.{OfSubtype, OfType}
use Rattle.al_view_typed.specs.ExpressionTrees.{TypedTree}
use Rattle.al_view_typed.specs.ExpressionTrees.TypedTree.{Labelled}
use Rattle.al_view_typed.specs.StatementTrees.{AlternativeTree, StatementTree}
use Rattle.al_view_typed.specs.StatementTrees.{AlternativeTree as alternative_trees, StatementFormTree as statements, StatementTree as numbered}
use Rattle.al_view_typed.specs.StatementViews.{alternative_model, alternatives_of, statement_model, statements_of}
use Rattle.al_stmts.specs.Checking.{Checked, compound}
use Rattle.al_stmts.specs.declared.alternatives.CheckedAlternatives.{CheckedAlternatives}
use Rattle.al_stmts.specs.declared.alternatives.Chosen.{Chosen}
use Rattle.al_stmts.specs.declared.alternatives.Chosen.TheVariants.{OtherValues, Ranges}
use Rattle.al_stmts.specs.declared.choices.AlternativeChoices.{AlternativeChoices}
use Rattle.al_stmts.specs.declared.choices.CaseChoices.{CaseChoices}

-- ---- choices

abbrev pub no_choice : AlternativeChoices
no_choice = record { fault = None; choices = [] }

-- one more choice of an alternative, or the fault of one
abbrev pub with_choice : AlternativeChoices → Result Choice Fault → AlternativeChoices
with_choice a (Ok choice) = record { fault = a.fault; choices = a.choices ++ choice ∷ [] }
with_choice a (Err f) = record { fault = earlier a.fault (Some f); choices = a.choices }

abbrev pub no_alternative : CaseChoices
no_alternative = record { fault = None; alternatives = [] }

-- the choices of one more alternative
abbrev pub with_choices : CaseChoices → AlternativeChoices → CaseChoices
with_choices c a = record { fault = earlier c.fault a.fault; alternatives = c.alternatives ++ a.choices ∷ [] }

-- what the choices of a selector are compared with: the range of its nominal subtype, if it has one, or else that of its whole
-- type (ARM 5.4(7 to 9))
abbrev pub held_against : Option Bounds → Bounds → Selector
held_against (Some bounds) whole = OfSubtype bounds
held_against None whole = OfType whole

abbrev pub bounds_of : TypedTree → Option Bounds
bounds_of (Labelled labels form) = labels.bounds

-- what the choices are compared with, for a selector that has no fault
abbrev pub held_by : Result TypedTree Fault → Bounds → Option Selector
held_by (Ok s) whole = Some (held_against (bounds_of s) whole)
held_by (Err f) whole = None

-- the choices are right for what they are compared with; if the selector has a fault, nothing is asked of them
abbrev pub RightFor : Option Selector → List (List Choice) → Type 0
RightFor (Some selector) alternatives = AreRight selector alternatives
RightFor None alternatives = Unit {0}

abbrev pub right_or_told : Place → Bool → TypedTree → Result TypedTree Fault
right_or_told place are_right s = if are_right then Ok s else Err (fault_at place BadChoices)

-- The selector with its choices, which are right for it or not: that they aren't is reported, at `case`, only if neither the selector
-- nor a choice has a fault.
abbrev pub selected : Place → Result TypedTree Fault → Option Fault → Bool → Result TypedTree Fault
selected place selector fault are_right = next (unless fault selector) (right_or_told place are_right)

-- ---- alternatives

-- what an alternative chooses
abbrev pub chosen_by : List Choice → Chosen
chosen_by choices = if has_others choices then OtherValues else Ranges (filter_map range_of choices)

-- the alternatives so far: what is wrong inside them, and what is done for other values
pub record Alternatives : Type 0 where
  pub faults : FaultList
  pub alternatives : List AlternativeTree
  pub otherwise : List StatementTree

abbrev pub alternatives_checked : CheckedAlternatives → Alternatives
alternatives_checked a =
    record { faults = a.faults; alternatives = map alternative_model a.alternatives.items; otherwise = map statement_model a.otherwise.items }

abbrev pub none_chosen : Alternatives
none_chosen = record { faults = no_fault; alternatives = []; otherwise = [] }

-- one more alternative
abbrev pub with_alternative : Alternatives → Chosen → Checked → Alternatives
with_alternative a OtherValues inner = record { faults = followed a.faults inner.faults; alternatives = a.alternatives; otherwise = inner.statements }
with_alternative a (Ranges ranges) inner = record {
  faults = followed a.faults inner.faults;
  alternatives = a.alternatives ++ alternative_trees.Alternative ranges (statements_of inner.statements) ∷ [];
  otherwise = a.otherwise;
}

abbrev pub cased_over : ℕ → ℕ → Result TypedTree Fault → List AlternativeTree → List StatementTree → Result StatementTree Fault
cased_over line slot selector alternatives otherwise =
    next selector (λ s. Ok (numbered.Numbered line (statements.CaseStatement s slot (alternatives_of alternatives) (statements_of otherwise))))

-- the whole statement, whose selector is kept in this word of the frame
abbrev pub cased : ℕ → ℕ → Result TypedTree Fault → Alternatives → Checked
cased line slot selector a = compound (cased_over line slot selector a.alternatives a.otherwise) a.faults
