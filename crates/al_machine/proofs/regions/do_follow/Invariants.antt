use Rattle.std.proofs.Common.{◌≡◌, drop}
use Rattle.al_machine.specs.Memory.{follow_from}
use Rattle.al_machine.proofs.regions.do_follow.Given as goal

abbrev pub invariant-loop-region : goal.invariant-loop-region
invariant-loop-region l = follow_from l.end (drop l.region-index l.regions) ≡ follow_from 0 l.regions
