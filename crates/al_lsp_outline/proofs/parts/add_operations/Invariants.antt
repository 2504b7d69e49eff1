use Rattle.std.proofs.Common.{◌≡◌, ◌++◌, map, take}
use Rattle.std.specs.List.{flat_map}
use Rattle.al_tree.specs.DeclarationViews.{protected_operation_model}
use Rattle.al_lsp_outline.specs.Parts.{operation_declared}
use Rattle.al_lsp_outline.proofs.parts.add_operations.Given as goal

abbrev pub invariant-loop-operation : goal.invariant-loop-operation
invariant-loop-operation l = l.list.items ≡ l.initial.list.items ++ flat_map (operation_declared l.depth) (map protected_operation_model (take l.operation-index l.operations))
