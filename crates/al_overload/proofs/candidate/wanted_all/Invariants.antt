use Rattle.std.proofs.Common.{◌≡◌, map, take}
use Rattle.al_overload.specs.Candidates.{wanted_of}
use Rattle.al_overload.proofs.candidate.wanted_all.Given as goal

abbrev pub invariant-loop-parameter : goal.invariant-loop-parameter
invariant-loop-parameter l = l.expected ≡ map (wanted_of l.types) (take l.parameter-index l.parameters)
