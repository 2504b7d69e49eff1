-- What declarations ask of whoever knows what names mean at a place.
use Rattle.std.specs.Prelude.{Result}
use Rattle.al_base_fault.specs.declared.fault.Fault.{Fault}
use Rattle.al_scope.specs.Places.{Place}
use Rattle.al_tree_syntax.specs.DeclarationTrees.{CompoundNameTree, DiscreteRangeTree, SubtypeIndicationTree}
use Rattle.al_tree_syntax.specs.ExpressionTrees.{ExpressionTree}
use Rattle.al_view_typed.specs.ExpressionTrees.{TypedTree}
use Rattle.al_view.specs.declared.view.SubtypeView.{SubtypeView}

pub record PartReading : Type 0 where
  -- the subtype that a mark denotes
  pub mark : Place → CompoundNameTree → Result SubtypeView Fault
  -- of a mark with a constraint or without
  pub indication : Place → SubtypeIndicationTree → Result SubtypeView Fault
  -- of the index of an array
  pub index : Place → DiscreteRangeTree → Result SubtypeView Fault
  -- the initial value of objects of a subtype, the value of named numbers, a bound of an integer type, a priority; words of temporaries aren't numbered
  pub value : Place → SubtypeView → ExpressionTree → Result TypedTree Fault
  pub number : Place → ExpressionTree → Result TypedTree Fault
  pub bound : Place → ExpressionTree → Result TypedTree Fault
  pub priority : Place → ExpressionTree → Result TypedTree Fault
