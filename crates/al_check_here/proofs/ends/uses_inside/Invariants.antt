use Rattle.std.proofs.Common.{◌≡◌, take}
use Rattle.al_check_here.specs.Ends.{uses_inside}
use Rattle.al_check_here.proofs.ends.uses_inside.Given as goal

abbrev pub invariant-loop-found : goal.invariant-loop-found
invariant-loop-found l = l.made ≡ uses_inside l.stubs (take l.found-index l.uses)
