use Rattle.std.proofs.Common.{◌≡◌, ◌++◌}
use Rattle.al_overload.specs.Counts.{plain_all}
use Rattle.al_overload.specs.Ranges.{all_of}
use Rattle.al_overload.proofs.range.want_all.Given as goal

abbrev pub invariant-loop-rest : goal.invariant-loop-rest
invariant-loop-rest l = l.expected ++ all_of l.of (plain_all l.rest) ≡ l.initial.expected ++ all_of l.of (plain_all l.operands)
