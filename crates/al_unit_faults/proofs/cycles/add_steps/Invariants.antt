use Rattle.std.proofs.Common.{take}
use Rattle.al_unit_faults.specs.Numbers.{AddsFrom}
use Rattle.al_unit_faults.proofs.cycles.add_steps.Given as goal

abbrev pub invariant-loop-to : goal.invariant-loop-to
invariant-loop-to l = AddsFrom l.initial.graph l.graph l.from (take l.to-index l.targets)
