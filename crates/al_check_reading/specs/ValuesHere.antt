-- Expressions at the place that the check of a unit has reached, by a table of answers. If an expression is right, its temporaries take the next
-- words of the frame.
use Rattle.std.specs.Prelude.{ℕ, Option, Some, None, Result, Ok, Err}
use Rattle.al_stmts.specs.declared.choice.Choice.{Choice}
use Rattle.al_base_fault.specs.Judging.{map_ok}
use Rattle.al_base_fault.specs.declared.fault.Fault.{Fault}
use Rattle.al_overload_nodes.specs.Ranges.{FoundTree}
use Rattle.al_stmts_ranges.specs.PerformedAt.{call_effect_at}
use Rattle.al_query.specs.Reads.{Table}
use Rattle.al_stmts_ranges.specs.ChoicesAt.{all_values, selected_at, whole_at}
use Rattle.al_stmts_ranges.specs.LoopsAt.{FoundRangeTree, loop_range_at}
use Rattle.al_stmts.specs.LoopForms.{RangeTree}
use Rattle.al_tree_syntax.specs.DeclarationTrees.{DiscreteRangeTree}
use Rattle.al_tree_syntax.specs.ExpressionTrees.{ExpressionTree}
use Rattle.al_tree_syntax.specs.StatementTrees.{ChoiceTree}
use Rattle.al_view_typed.specs.ExpressionTrees.{TypedTree}
use Rattle.al_overload_values.specs.Surroundings.{Surroundings}
use Rattle.al_overload_values.specs.ValuesAt.{condition_at, moment_at, result_at, selector_at, source_at, target_at}
use Rattle.al_overload_values.specs.Words.{Worded}
use Rattle.al_view.specs.declared.types.Bounds.{Bounds}
use Rattle.al_view.specs.declared.view.SubtypeView.{SubtypeView}
use Rattle.al_stmts.specs.Readings.{CallEffect, Read}
use Rattle.al_check_here.specs.Stacks.{innermost}
use Rattle.al_check_here.specs.Standings.{at_word, word_of}
use Rattle.al_check_here.specs.declared.state.OpenBody.{OpenBody}
use Rattle.al_check_here.specs.declared.state.CheckState.{CheckState}
use Rattle.al_check_declared.specs.Nowhere.{not_yet_fault}

-- the context of expressions at the place
abbrev pub surroundings : CheckState → Surroundings
surroundings h = record {
  place = h.env.scope;
  packages = h.unit.packages;
  predefined = h.unit.labeller.predefined;
  own = h.unit.labeller.own;
}

-- what was judged from a word on, with the word after it as the next one
abbrev pub worded : {A : Type 0} → CheckState → Worded A → Read CheckState A
worded h w = (at_word h w.0, w.1)

abbrev pub condition_here : Table → CheckState → ExpressionTree → Read CheckState TypedTree
condition_here t h e = worded h (condition_at t (surroundings h) e (word_of h))

abbrev pub moment_here : Table → CheckState → ExpressionTree → Read CheckState TypedTree
moment_here t h e = worded h (moment_at t (surroundings h) e (word_of h))

abbrev pub target_here : Table → CheckState → ExpressionTree → Read CheckState TypedTree
target_here t h e = worded h (target_at t (surroundings h) e (word_of h))

abbrev pub source_here : Table → CheckState → ExpressionTree → ExpressionTree → Read CheckState TypedTree
source_here t h n e = worded h (source_at t (surroundings h) n e (word_of h))

abbrev pub call_effect_here : Table → CheckState → ExpressionTree → Read CheckState CallEffect
call_effect_here t h e = worded h (call_effect_at t (surroundings h) e (word_of h))

-- ---- the value of the innermost function

abbrev pub result_of : Option OpenBody → Option SubtypeView
result_of None = None
result_of (Some b) = b.result

-- outside of any function no value is judged
abbrev pub result_from : Table → CheckState → ExpressionTree → ℕ → Option SubtypeView → Worded TypedTree
result_from t h e word None = (word, Err not_yet_fault)
result_from t h e word (Some of) = result_at t (surroundings h) of e word

abbrev pub result_here : Table → CheckState → ExpressionTree → Read CheckState TypedTree
result_here t h e = worded h (result_from t h e (word_of h) (result_of (innermost h.bodies)))

-- ---- case statements

abbrev pub value_found : FoundTree → TypedTree
value_found f = f.value

abbrev pub selector_read : CheckState → Worded FoundTree → Read CheckState TypedTree
selector_read h w = (at_word h w.0, map_ok value_found w.1)

abbrev pub selector_here : Table → CheckState → ExpressionTree → Read CheckState TypedTree
selector_here t h e = selector_read h (selector_at t (surroundings h) e (word_of h))

abbrev pub whole_here : Table → CheckState → ExpressionTree → Bounds
whole_here t h e = whole_at t (surroundings h) e

abbrev pub choice_here : Table → CheckState → ExpressionTree → ChoiceTree → Result Choice Fault
choice_here t h e c = selected_at t (surroundings h) e c

-- ---- ranges of for loops

abbrev pub range_found : FoundRangeTree → RangeTree
range_found f = f.range

-- the type of a range that is right is kept for the parameter
abbrev pub with_range : CheckState → Result FoundRangeTree Fault → CheckState
with_range h (Ok f) = record h { parameter = Some (record { of = f.found.of; types = f.found.types; values = all_values f.found }) }
with_range h (Err f) = h

abbrev pub range_read : CheckState → Worded FoundRangeTree → Read CheckState RangeTree
range_read h w = (with_range (at_word h w.0) w.1, map_ok range_found w.1)

abbrev pub loop_range_here : Table → CheckState → DiscreteRangeTree → Read CheckState RangeTree
loop_range_here t h d = range_read h (loop_range_at t (surroundings h) d (word_of h))
