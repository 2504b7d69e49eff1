-- The walk over parts of the program's trees.
use Rattle.std.specs.Prelude.{List, Result, Some, map, option_map}
use Rattle.al_base_fault.specs.declared.fault.Fault.{Fault}
use Rattle.al_stmts.specs.Readings.{Read}
use Rattle.al_tree_grammar.specs.Grammar.{Label}
use Rattle.al_tree_syntax.specs.StatementTrees.{ItemsTree, NamedEndTree, OperationBodiesTree, StatementsTree}
use Rattle.al_tree.specs.StatementViews.{alternative_model, alternatives_of, branch_model, elsif_model, elsifs_of, else_of, item_model, items_of, operation_bodies_of, operation_body_model, statements_model}
use Rattle.al_tree.specs.declared.statement.CaseStatement.{CaseStatement, out-CaseStatement}
use Rattle.al_tree.specs.declared.statement.IfStatement.{IfStatement, out-IfStatement}
use Rattle.al_tree.specs.declared.statement.DeclaredStatements.{DeclaredStatements, out-DeclaredStatements}
use Rattle.al_tree.specs.declared.statement.OperationBody.{OperationBody}
use Rattle.al_tree.specs.declared.statement.SubprogramBody.{SubprogramBody, out-SubprogramBody}
use Rattle.al_tree.specs.Lexemes.{place_label}
use Rattle.al_view_typed.specs.DeclarationTrees.{DeclarationTree}
use Rattle.al_stmts.specs.Returns.{no_return_fault}
use Rattle.al_stmts.specs.Returning.{has_return}
use Rattle.al_stmts.specs.Readings.{Reading}
use Rattle.al_stmts.specs.Steps.{Enclosing, Branching, Choosing, Inside, Part}
use Rattle.al_stmts.specs.Walking.{alternative_walked, alternatives_walked, body_ended, body_entered, branch_walked, closed, elsifs_walked, else_walked, end_of, inside_after, items_walked, object_after, object_ended, operations_walked, statements_walked, walked_body}
use Rattle.al_stmts.specs.declared.extent.BodyExtent.{BodyExtent}

-- the branches of an if statement
abbrev pub all_branches : {H : Type 0} → Reading H → Enclosing → H × Branching → IfStatement → H × Branching
all_branches R r so_far s =
    else_walked R r
    (elsifs_walked R r (branch_walked R r so_far (out-IfStatement s).opening.line (branch_model (out-IfStatement s).first)) (elsifs_of (map elsif_model (out-IfStatement s).others.items)))
    (else_of (option_map statements_model (out-IfStatement s).otherwise))

-- the alternatives of a case statement
abbrev pub all_alternatives : {H : Type 0} → Reading H → Enclosing → H × Choosing → CaseStatement → H × Choosing
all_alternatives R r so_far s =
    alternatives_walked R r (alternative_walked R r so_far (alternative_model (out-CaseStatement s).first)) (alternatives_of (map alternative_model (out-CaseStatement s).others.items))

-- what is inside a body
abbrev pub body_inside : {H : Type 0} → Reading H → Enclosing → H → ItemsTree → Label → StatementsTree → H × Inside
body_inside R r h is begin ss = let part = closed R (items_walked R h is) begin in inside_after part (statements_walked R r part.0 ss)

-- a body after its head, which is right
abbrev pub entered_walked : {H : Type 0} → Reading H → H → List DeclarationTree → BodyExtent → ItemsTree → Label → StatementsTree → H × Part
entered_walked R h effects extent is begin ss =
    let inner = body_entered R h in body_ended R effects extent (no_return_fault extent.end inner.1.returns.body (has_return ss)) (body_inside R inner.1 inner.0 is begin ss)

-- the body of a subprogram, by its parts
abbrev pub subprogram_headed : {H : Type 0} → Reading H → Read H (List DeclarationTree) → BodyExtent → SubprogramBody → H × Part
subprogram_headed R head extent b = walked_body R head extent (items_of (map item_model (out-SubprogramBody b).items.items)) (place_label (out-SubprogramBody b).begin) (statements_model (out-SubprogramBody b).statements)

abbrev pub subprogram_entered : {H : Type 0} → Reading H → H → List DeclarationTree → BodyExtent → SubprogramBody → H × Part
subprogram_entered R h effects extent b = entered_walked R h effects extent (items_of (map item_model (out-SubprogramBody b).items.items)) (place_label (out-SubprogramBody b).begin) (statements_model (out-SubprogramBody b).statements)

abbrev pub subprogram_inside : {H : Type 0} → Reading H → Enclosing → H → SubprogramBody → H × Inside
subprogram_inside R r h b = body_inside R r h (items_of (map item_model (out-SubprogramBody b).items.items)) (place_label (out-SubprogramBody b).begin) (statements_model (out-SubprogramBody b).statements)

-- the body of a task or an entry, by its parts
abbrev pub declared_headed : {H : Type 0} → Reading H → Read H (List DeclarationTree) → BodyExtent → DeclaredStatements → H × Part
declared_headed R head extent b = walked_body R head extent (items_of (map item_model (out-DeclaredStatements b).items.items)) (place_label (out-DeclaredStatements b).begin) (statements_model (out-DeclaredStatements b).statements)

abbrev pub declared_entered : {H : Type 0} → Reading H → H → List DeclarationTree → BodyExtent → DeclaredStatements → H × Part
declared_entered R h effects extent b = entered_walked R h effects extent (items_of (map item_model (out-DeclaredStatements b).items.items)) (place_label (out-DeclaredStatements b).begin) (statements_model (out-DeclaredStatements b).statements)

abbrev pub declared_inside : {H : Type 0} → Reading H → Enclosing → H → DeclaredStatements → H × Inside
declared_inside R r h b = body_inside R r h (items_of (map item_model (out-DeclaredStatements b).items.items)) (place_label (out-DeclaredStatements b).begin) (statements_model (out-DeclaredStatements b).statements)

-- the bodies of a protected object's operations
abbrev pub operation_trees : List OperationBody → OperationBodiesTree
operation_trees os = operation_bodies_of (map operation_body_model os)

-- a protected body whose region is entered
abbrev pub opened_walked : {H : Type 0} → Reading H → H → Label → List OperationBody → NamedEndTree → List DeclarationTree → H × Part
opened_walked R h n os e effects = object_ended R effects (end_of (Some n) e.end_name) (closed R (operations_walked R h (operation_trees os)) e.end)

-- a protected body
abbrev pub object_walked : {H : Type 0} → Reading H → H → Label → Label → List OperationBody → NamedEndTree → H × Part
object_walked R h l n os e =
    let opened = R.object_entered h l n (operation_trees os) in object_after R opened n e (operations_walked R opened.0 (operation_trees os))
