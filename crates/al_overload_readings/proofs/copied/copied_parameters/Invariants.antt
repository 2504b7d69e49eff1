use Rattle.std.proofs.Common.{◌≡◌, take}
use Rattle.al_overload_readings.proofs.copied.copied_parameters.Given as goal

abbrev pub invariant-loop-parameter : goal.invariant-loop-parameter
invariant-loop-parameter l = l.copy ≡ take l.parameter-index l.parameters
