use Rattle.std.proofs.Common.{◌≡◌, drop}
use Rattle.al_check_declared.specs.Barriers.{barrier_among}
use Rattle.al_check_declared.proofs.barrier.barrier_among.Given as goal

abbrev pub invariant-loop-component : goal.invariant-loop-component
invariant-loop-component l = barrier_among l.object l.name l.of l.word (drop l.component-index l.components) ≡ barrier_among l.object l.name l.of 0 l.components
