-- The choices of an alternative, one by one.
use Rattle.std.specs.Prelude.{Bool, ◌∷◌, fold, is_ok, Result}
use Rattle.al_base_fault.specs.declared.fault.Fault.{Fault}
use Rattle.al_tree_syntax.specs.ExpressionTrees.{ExpressionTree}
use Rattle.al_tree_syntax.specs.StatementTrees.{AlternativeTree, AlternativesTree, ChoiceTree}
use Rattle.al_tree_syntax.specs.StatementTrees.AlternativeTree.{Alternative}
use Rattle.al_stmts.specs.Cases.{with_choice}
use Rattle.al_stmts.specs.declared.choices.AlternativeChoices.{AlternativeChoices}
use Rattle.al_stmts.specs.declared.choices.CaseChoices.{CaseChoices}
use Rattle.al_view_typed.specs.ExpressionTrees.{TypedTree}
use Rattle.al_stmts.specs.Readings.{Reading}
use Rattle.al_stmts.specs.Walking.{all_choices, right_choices}

abbrev pub with_chosen : {H : Type 0} → Reading H → H → ExpressionTree → AlternativeChoices → ChoiceTree → AlternativeChoices
with_chosen R h e cs c = with_choice cs (R.choice h e c)

abbrev pub choices_of : {H : Type 0} → Reading H → H → ExpressionTree → AlternativeChoices → AlternativeTree → AlternativeChoices
choices_of R h e cs (Alternative first others ss) = fold (with_chosen R h e) cs (first ∷ others)

-- the choices of all alternatives, and whether they are right
abbrev pub chosen_right : {H : Type 0} → Reading H → H → ExpressionTree → Result TypedTree Fault → AlternativeTree → AlternativesTree → CaseChoices × Bool
chosen_right R h e selector first more = (all_choices R h e (is_ok selector) first more, right_choices R h e selector (all_choices R h e (is_ok selector) first more))
