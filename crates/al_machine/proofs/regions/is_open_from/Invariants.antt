use Rattle.std.proofs.Common.{◌≡◌, drop}
use Rattle.al_machine.specs.Memory.{is_open}
use Rattle.al_machine.proofs.regions.is_open_from.Given as goal

abbrev pub invariant-loop-at : goal.invariant-loop-at
invariant-loop-at l = is_open (drop l.at l.regions) l.inside l.at l.from l.words ≡ is_open (drop l.number l.regions) l.inside l.number l.from l.words
