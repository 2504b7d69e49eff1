use Rattle.std.proofs.Common.{◌≡◌}
use Rattle.al_overload.specs.Counts.{plain_all}
use Rattle.al_overload.specs.Ranges.{with_types}
use Rattle.al_overload.proofs.range.add_types.Given as goal

abbrev pub invariant-loop-rest : goal.invariant-loop-rest
invariant-loop-rest l = with_types l.types (plain_all l.rest) ≡ with_types l.initial.types (plain_all l.operands)
