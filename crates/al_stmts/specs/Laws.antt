-- What a walk gives, over any reading.
use Rattle.std.specs.Prelude.{◌≡◌}
use Rattle.al_tree_syntax.specs.StatementTrees.{ItemTree, ItemsTree, MoreStatementsTree, OperationBodiesTree, OperationBodyTree, StatementTree}
use Rattle.al_tree_syntax.specs.StatementTrees.ItemsTree.{MoreItems}
use Rattle.al_tree_syntax.specs.StatementTrees.OperationBodiesTree.{MoreOperationBodies}
use Rattle.al_tree_syntax.specs.StatementTrees.StatementsTree.{Statements}
use Rattle.al_stmts.specs.FaultLists.{followed}
use Rattle.al_stmts.specs.Readings.{Reading}
use Rattle.al_stmts.specs.Steps.{Enclosing}
use Rattle.al_stmts.specs.Walking.{item_walked, items_walked, more_walked, operation_walked, operations_walked, statement_walked, statements_walked}

-- what is wrong with statements is what is wrong with the first one, and then with those after it
abbrev pub FaultsFollow : Type 0 → Type 0
FaultsFollow H =
    (R : Reading H) (r : Enclosing) (h : H) (s : StatementTree) (more : MoreStatementsTree)
    → (statements_walked R r h (Statements s more)).1.checked.faults
    ≡ followed (statement_walked R r h s).1.checked.faults (more_walked R r (statement_walked R r h s).0 more).1.checked.faults

-- and the same of the items of a part
abbrev pub ItemsFollow : Type 0 → Type 0
ItemsFollow H =
    (R : Reading H) (h : H) (i : ItemTree) (is : ItemsTree)
    → (items_walked R h (MoreItems i is)).1.faults ≡ followed (item_walked R h i).1.faults (items_walked R (item_walked R h i).0 is).1.faults

-- and of the bodies of a protected object's operations
abbrev pub OperationsFollow : Type 0 → Type 0
OperationsFollow H =
    (R : Reading H) (h : H) (o : OperationBodyTree) (os : OperationBodiesTree)
    → (operations_walked R h (MoreOperationBodies o os)).1.faults ≡ followed (operation_walked R h o).1.faults (operations_walked R (operation_walked R h o).0 os).1.faults
