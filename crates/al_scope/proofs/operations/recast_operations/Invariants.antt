use Rattle.std.proofs.Common.{◌≡◌, map, take}
use Rattle.al_scope.specs.Recasts.{recast_operation}
use Rattle.al_scope.proofs.operations.recast_operations.Given as goal

abbrev pub invariant-loop-operation : goal.invariant-loop-operation
invariant-loop-operation l = l.made ≡ map (recast_operation l.recasts) (take l.operation-index l.of)
