use Rattle.std.proofs.Common.{◌≡◌, ◌++◌, map, take}
use Rattle.al_tree.specs.StatementViews.{item_model, items_of, operation_bodies_of, operation_body_model}
use Rattle.al_lsp_outline.specs.Bodies.{items_declared, operations_declared}
use Rattle.al_lsp_outline.proofs.bodies.+bodies.Given as goal

abbrev pub invariant-add_items-loop-item : goal.invariant-add_items-loop-item
invariant-add_items-loop-item l = l.list.items ≡ l.initial.list.items ++ items_declared l.depth (items_of (map item_model (take l.item-index l.items)))

abbrev pub invariant-add_operations-loop-operation : goal.invariant-add_operations-loop-operation
invariant-add_operations-loop-operation l = l.list.items ≡ l.initial.list.items ++ operations_declared l.depth (operation_bodies_of (map operation_body_model (take l.operation-index l.operations)))
