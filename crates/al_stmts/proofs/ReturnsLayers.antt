-- Statements of a text by their fields.
use Rattle.std.proofs.Common.{◌≡◌, map, sym, ap, ◌∙◌}
use Rattle.std.specs.Prelude.{option_map}
use Rattle.al_tree_syntax.specs.StatementTrees.{StatementsTree as statements_trees, StatementTree as statement_trees, BranchTree as branch_trees, AlternativeTree as alternative_trees, HandledTree as handled_trees}
use Rattle.al_tree.specs.ExpressionViews.{expression_model}
use Rattle.al_tree.specs.Lexemes.{place_label}
use Rattle.al_tree.specs.StatementViews.{alternative_model, alternatives_of, branch_model, case_model, choice_model, elsif_model, elsifs_of, else_of, handled_model, if_model, item_model, items_of, more_statements_of, named_end_model, statement_model, statements_model}
use Rattle.al_tree.specs.declared.statement.Alternative.{Alternative, out-Alternative, roll-out-Alternative}
use Rattle.al_tree.specs.declared.statement.Branch.{Branch, out-Branch, roll-out-Branch}
use Rattle.al_tree.specs.declared.statement.CaseStatement.{CaseStatement, out-CaseStatement, roll-out-CaseStatement}
use Rattle.al_tree.specs.declared.statement.DeclaredStatements.{DeclaredStatements, out-DeclaredStatements, roll-out-DeclaredStatements}
use Rattle.al_tree.specs.declared.statement.ElsifBranch.{ElsifBranch, out-ElsifBranch, roll-out-ElsifBranch}
use Rattle.al_tree.specs.declared.statement.IfStatement.{IfStatement, out-IfStatement, roll-out-IfStatement}
use Rattle.al_tree.specs.declared.statement.Statements.{Statements, out-Statements, roll-out-Statements}
use Rattle.al_tree.proofs.StatementsMade.{alternative_new_model, branch_new_model, case_new_model, elsif_new_model, handled_new_model, if_new_model, statements_new_model}

pub statements_layers : (s : Statements) → statements_model s ≡ statements_trees.Statements (statement_model (out-Statements s).first) (more_statements_of (map statement_model (out-Statements s).others.items))
statements_layers s = ap statements_model (sym (roll-out-Statements s)) ∙ statements_new_model (out-Statements s).first (out-Statements s).others

pub branch_layers : (b : Branch) → branch_model b ≡ branch_trees.Branch (expression_model (out-Branch b).condition) (statements_model (out-Branch b).statements)
branch_layers b = ap branch_model (sym (roll-out-Branch b)) ∙ branch_new_model (out-Branch b).condition (out-Branch b).statements

pub elsif_layers : (b : ElsifBranch) → elsif_model b ≡ (place_label (out-ElsifBranch b).opening, branch_model (out-ElsifBranch b).branch)
elsif_layers b = ap elsif_model (sym (roll-out-ElsifBranch b)) ∙ elsif_new_model (out-ElsifBranch b).opening (out-ElsifBranch b).branch

pub if_layers : (s : IfStatement) → if_model s ≡ statement_trees.IfStatement (place_label (out-IfStatement s).opening) (branch_model (out-IfStatement s).first) (elsifs_of (map elsif_model (out-IfStatement s).others.items)) (else_of (option_map statements_model (out-IfStatement s).otherwise)) (place_label (out-IfStatement s).end) (place_label (out-IfStatement s).closing)
if_layers s = ap if_model (sym (roll-out-IfStatement s)) ∙ if_new_model (out-IfStatement s).opening (out-IfStatement s).first (out-IfStatement s).others (out-IfStatement s).otherwise (out-IfStatement s).end (out-IfStatement s).closing

pub case_layers : (s : CaseStatement) → case_model s ≡ statement_trees.CaseStatement (place_label (out-CaseStatement s).opening) (expression_model (out-CaseStatement s).selector) (alternative_model (out-CaseStatement s).first) (alternatives_of (map alternative_model (out-CaseStatement s).others.items)) (place_label (out-CaseStatement s).end) (place_label (out-CaseStatement s).closing)
case_layers s = ap case_model (sym (roll-out-CaseStatement s)) ∙ case_new_model (out-CaseStatement s).opening (out-CaseStatement s).selector (out-CaseStatement s).first (out-CaseStatement s).others (out-CaseStatement s).end (out-CaseStatement s).closing

pub alternative_layers : (a : Alternative) → alternative_model a ≡ alternative_trees.Alternative (choice_model (out-Alternative a).first) (map choice_model (out-Alternative a).others.items) (statements_model (out-Alternative a).statements)
alternative_layers a = ap alternative_model (sym (roll-out-Alternative a)) ∙ alternative_new_model (out-Alternative a).first (out-Alternative a).others (out-Alternative a).statements

pub handled_layers : (h : DeclaredStatements) → handled_model h ≡ handled_trees.Handled (items_of (map item_model (out-DeclaredStatements h).items.items)) (place_label (out-DeclaredStatements h).begin) (statements_model (out-DeclaredStatements h).statements) (named_end_model (out-DeclaredStatements h).end)
handled_layers h = ap handled_model (sym (roll-out-DeclaredStatements h)) ∙ handled_new_model (out-DeclaredStatements h).items (out-DeclaredStatements h).begin (out-DeclaredStatements h).statements (out-DeclaredStatements h).end
