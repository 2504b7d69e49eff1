use Rattle.std.proofs.Common.{◌≡◌, ◌*◌}
use Rattle.al_overload.specs.Counts.{held_all, size, ways_of}
use Rattle.al_overload.proofs.count.ways_of_operands.Given as goal

abbrev pub invariant-loop-rest : goal.invariant-loop-rest
invariant-loop-rest l = ways_of (size l.ways * size (held_all l.rest l.rest_expected)) ≡ held_all l.operands l.expected
