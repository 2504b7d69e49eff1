use Rattle.std.proofs.Common.{◌≡◌, take}
use Rattle.al_scope.specs.Recasts.{recast_types}
use Rattle.al_scope.proofs.types.recast_types.Given as goal

abbrev pub invariant-loop-of : goal.invariant-loop-of
invariant-loop-of l = l.made ≡ recast_types l.recasts (take l.of-index l.types)
