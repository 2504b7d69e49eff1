-- Trees of the program by their fields.
use Rattle.std.proofs.Common.{◌≡◌, map, sym, ap, ◌∙◌}
use Rattle.al_view_typed.specs.ExpressionTrees.{TypedTree as typed_trees, ValueTree as value_trees, CallTree as call_trees}
use Rattle.al_view_typed.specs.ExpressionViews.{actual_model, actuals_of, call_model, form_model, typed_model, value_model}
use Rattle.al_view_typed.specs.declared.expression.Typed.{Typed, out-Typed, roll-out-Typed}
use Rattle.al_view_typed.specs.declared.expression.CheckedValue.{CheckedValue, out-CheckedValue, roll-out-CheckedValue}
use Rattle.al_view_typed.specs.declared.expression.TypedCall.{TypedCall, out-TypedCall, roll-out-TypedCall}
use Rattle.al_view_typed.proofs.ExpressionsMade.{call_made, typed_made, value_made}
use Rattle.al_view_typed.specs.StatementTrees.{StatementTree as statement_trees, BranchTree as branch_trees, AlternativeTree as alternative_trees}
use Rattle.al_view_typed.specs.StatementViews.{alternative_model, branch_model, statement_form_model, statement_model, statements_of}
use Rattle.al_view_typed.specs.declared.statement.TypedStatement.{TypedStatement, out-TypedStatement, roll-out-TypedStatement}
use Rattle.al_view_typed.specs.declared.statement.Branch.{Branch, out-Branch, roll-out-Branch}
use Rattle.al_view_typed.specs.declared.statement.Alternative.{Alternative, out-Alternative, roll-out-Alternative}
use Rattle.al_view_typed.proofs.StatementsMade.{alternative_made, branch_made, statement_made}

pub typed_layers : (t : Typed) → typed_model t ≡ typed_trees.Labelled (out-Typed t).labels (form_model (out-Typed t).form)
typed_layers t = ap typed_model (sym (roll-out-Typed t)) ∙ typed_made (out-Typed t).labels (out-Typed t).form

pub call_layers : (c : TypedCall) → call_model c ≡ call_trees.Called (out-TypedCall c).callee (out-TypedCall c).flag (out-TypedCall c).words (actuals_of (map actual_model (out-TypedCall c).actuals.items))
call_layers c = ap call_model (sym (roll-out-TypedCall c)) ∙ call_made (out-TypedCall c).callee (out-TypedCall c).flag (out-TypedCall c).words (out-TypedCall c).actuals

pub value_layers : (v : CheckedValue) → value_model v ≡ value_trees.Checked (typed_model (out-CheckedValue v).value) (out-CheckedValue v).bounds
value_layers v = ap value_model (sym (roll-out-CheckedValue v)) ∙ value_made (out-CheckedValue v).value (out-CheckedValue v).bounds

pub statement_layers : (s : TypedStatement) → statement_model s ≡ statement_trees.Numbered (out-TypedStatement s).line (statement_form_model (out-TypedStatement s).form)
statement_layers s = ap statement_model (sym (roll-out-TypedStatement s)) ∙ statement_made (out-TypedStatement s).line (out-TypedStatement s).form

pub branch_layers : (b : Branch) → branch_model b ≡ branch_trees.Branch (out-Branch b).line (typed_model (out-Branch b).condition) (statements_of (map statement_model (out-Branch b).statements.items))
branch_layers b = ap branch_model (sym (roll-out-Branch b)) ∙ branch_made (out-Branch b).line (out-Branch b).condition (out-Branch b).statements

pub alternative_layers : (a : Alternative) → alternative_model a ≡ alternative_trees.Alternative (out-Alternative a).choices (statements_of (map statement_model (out-Alternative a).statements.items))
alternative_layers a = ap alternative_model (sym (roll-out-Alternative a)) ∙ alternative_made (out-Alternative a).choices (out-Alternative a).statements
