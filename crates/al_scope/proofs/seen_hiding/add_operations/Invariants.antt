use Rattle.std.proofs.Common.{◌≡◌, ◌++◌, take}
use Rattle.std.specs.List.{flat_map}
use Rattle.al_scope.specs.Hidden.{partial_if_hidden}
use Rattle.al_scope.specs.Recasts.{operation_types}
use Rattle.al_scope.proofs.seen_hiding.add_operations.Given as goal

abbrev pub invariant-loop-operation : goal.invariant-loop-operation
invariant-loop-operation l = l.recasts ≡ l.fn.recasts ++ flat_map (partial_if_hidden l.names) (operation_types (take l.operation-index l.operations))
