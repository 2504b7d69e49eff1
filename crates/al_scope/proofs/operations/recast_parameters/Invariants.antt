use Rattle.std.proofs.Common.{◌≡◌, map, take}
use Rattle.al_scope.specs.Recasts.{recast_parameter}
use Rattle.al_scope.proofs.operations.recast_parameters.Given as goal

abbrev pub invariant-loop-parameter : goal.invariant-loop-parameter
invariant-loop-parameter l = l.made ≡ map (recast_parameter l.recasts) (take l.parameter-index l.of)
