-- What a statement that was just made is seen as.
use Rattle.std.proofs.Common.{◌≡◌, ℕ, Bool, List, map, Option, sym, ap, ◌∙◌, Vec, Global}
use Rattle.std.specs.Prelude.{option_map}
use Rattle.al_view.specs.declared.types.Bounds.{Bounds}
use Rattle.al_view_typed.specs.DeclarationTrees.{declaration_model}
use Rattle.al_view_typed.specs.ExpressionViews.{call_model, name_model, typed_model, value_model}
use Rattle.al_view_typed.specs.StatementTrees.{StatementTree as statement_trees, StatementFormTree as form_trees, BranchTree as branch_trees, AlternativeTree as alternative_trees}
use Rattle.al_view_typed.specs.StatementViews.{by_layers, alternative_model, alternatives_of, branch_model, branches_of, piece_model, scheme_model, statement_form_model, statement_model, statements_of}
use Rattle.al_view_typed.specs.declared.declaration.TypedDeclaration.{TypedDeclaration}
use Rattle.al_view_typed.specs.declared.expression.CheckedValue.{CheckedValue}
use Rattle.al_view_typed.specs.declared.expression.Typed.{Typed}
use Rattle.al_view_typed.specs.declared.expression.TypedCall.{TypedCall}
use Rattle.al_view_typed.specs.declared.expression.TypedName.{TypedName}
use Rattle.al_view_typed.specs.declared.statement.Piece.{Piece}
use Rattle.al_view_typed.specs.declared.statement.LoopScheme.{LoopScheme}
use Rattle.al_view_typed.specs.declared.statement.StatementForm.{StatementForm}
use Rattle.al_view_typed.specs.declared.statement.StatementForm.TheVariants.{Null, Assignment, Call, Put, Return, Exit, Delay, If, Case, Loop, Block, rolls-Null, rolls-Assignment, rolls-Call, rolls-Put, rolls-Return, rolls-Exit, rolls-Delay, rolls-If, rolls-Case, rolls-Loop, rolls-Block}
use Rattle.al_view_typed.specs.declared.statement.Alternative.{Alternative, roll-Alternative}
use Rattle.al_view_typed.specs.declared.statement.Branch.{Branch, roll-Branch}
use Rattle.al_view_typed.specs.declared.statement.TypedStatement.{TypedStatement, roll-TypedStatement}
use Rattle.al_view_typed.specs.declared.statement.StatementForm.TheOpen as layer
use Rattle.al_view_typed.specs.declared.statement.StatementForm.TheFolds.{fold-roll-StatementForm, fold-roll-Alternative, fold-roll-Branch, fold-roll-TypedStatement}

pub statement_made : (line : ℕ) (form : StatementForm) → statement_model (roll-TypedStatement (record { line = line; form = form })) ≡ statement_trees.Numbered line (statement_form_model form)
unfolding statement_form_model statement_model
statement_made line form = by_layers fold-roll-TypedStatement (record { line = line; form = form })

pub null_made : statement_form_model Null ≡ form_trees.NullStatement
unfolding statement_form_model
null_made = ap statement_form_model (sym rolls-Null) ∙ by_layers fold-roll-StatementForm layer.Null

pub assignment_made : (target : TypedName) (words : ℕ) (value : CheckedValue) → statement_form_model (Assignment target words value) ≡ form_trees.AssignmentStatement (name_model target) words (value_model value)
unfolding statement_form_model
assignment_made target words value = ap statement_form_model (sym (rolls-Assignment target words value)) ∙ by_layers fold-roll-StatementForm (layer.Assignment target words value)

pub call_made : (call : TypedCall) → statement_form_model (Call call) ≡ form_trees.CallStatement (call_model call)
unfolding statement_form_model
call_made call = ap statement_form_model (sym (rolls-Call call)) ∙ by_layers fold-roll-StatementForm (layer.Call call)

pub put_made : (pieces : Vec Piece Global) (ends_line : Bool) → statement_form_model (Put pieces ends_line) ≡ form_trees.PutStatement (map piece_model pieces.items) ends_line
unfolding statement_form_model
put_made pieces ends_line = ap statement_form_model (sym (rolls-Put pieces ends_line)) ∙ by_layers fold-roll-StatementForm (layer.Put pieces ends_line)

pub return_made : (value : Option CheckedValue) (words : ℕ) → statement_form_model (Return value words) ≡ form_trees.ReturnStatement (option_map value_model value) words
unfolding statement_form_model
return_made value words = ap statement_form_model (sym (rolls-Return value words)) ∙ by_layers fold-roll-StatementForm (layer.Return value words)

pub exit_made : (loops : ℕ) (condition : Option Typed) → statement_form_model (Exit loops condition) ≡ form_trees.ExitStatement loops (option_map typed_model condition)
unfolding statement_form_model
exit_made loops condition = ap statement_form_model (sym (rolls-Exit loops condition)) ∙ by_layers fold-roll-StatementForm (layer.Exit loops condition)

pub delay_made : (moment : Typed) → statement_form_model (Delay moment) ≡ form_trees.DelayStatement (typed_model moment)
unfolding statement_form_model
delay_made moment = ap statement_form_model (sym (rolls-Delay moment)) ∙ by_layers fold-roll-StatementForm (layer.Delay moment)

pub if_made : (branches : Vec Branch Global) (otherwise : Vec TypedStatement Global) → statement_form_model (If branches otherwise) ≡ form_trees.IfStatement (branches_of (map branch_model branches.items)) (statements_of (map statement_model otherwise.items))
unfolding branch_model statement_form_model statement_model
if_made branches otherwise = ap statement_form_model (sym (rolls-If branches otherwise)) ∙ by_layers fold-roll-StatementForm (layer.If branches otherwise)

pub case_made : (selector : Typed) (slot : ℕ) (alternatives : Vec Alternative Global) (otherwise : Vec TypedStatement Global) → statement_form_model (Case selector slot alternatives otherwise) ≡ form_trees.CaseStatement (typed_model selector) slot (alternatives_of (map alternative_model alternatives.items)) (statements_of (map statement_model otherwise.items))
unfolding alternative_model statement_form_model statement_model
case_made selector slot alternatives otherwise = ap statement_form_model (sym (rolls-Case selector slot alternatives otherwise)) ∙ by_layers fold-roll-StatementForm (layer.Case selector slot alternatives otherwise)

pub loop_made : (scheme : LoopScheme) (statements : Vec TypedStatement Global) → statement_form_model (Loop scheme statements) ≡ form_trees.LoopStatement (scheme_model scheme) (statements_of (map statement_model statements.items))
unfolding statement_form_model statement_model
loop_made scheme statements = ap statement_form_model (sym (rolls-Loop scheme statements)) ∙ by_layers fold-roll-StatementForm (layer.Loop scheme statements)

pub block_made : (declarations : Vec TypedDeclaration Global) (statements : Vec TypedStatement Global) → statement_form_model (Block declarations statements) ≡ form_trees.BlockStatement (map declaration_model declarations.items) (statements_of (map statement_model statements.items))
unfolding statement_form_model statement_model
block_made declarations statements = ap statement_form_model (sym (rolls-Block declarations statements)) ∙ by_layers fold-roll-StatementForm (layer.Block declarations statements)

pub branch_made : (line : ℕ) (condition : Typed) (statements : Vec TypedStatement Global) → branch_model (roll-Branch (record { line = line; condition = condition; statements = statements })) ≡ branch_trees.Branch line (typed_model condition) (statements_of (map statement_model statements.items))
unfolding branch_model statement_model
branch_made line condition statements = by_layers fold-roll-Branch (record { line = line; condition = condition; statements = statements })

pub alternative_made : (choices : List Bounds) (statements : Vec TypedStatement Global) → alternative_model (roll-Alternative (record { choices = choices; statements = statements })) ≡ alternative_trees.Alternative choices (statements_of (map statement_model statements.items))
unfolding alternative_model statement_model
alternative_made choices statements = by_layers fold-roll-Alternative (record { choices = choices; statements = statements })
