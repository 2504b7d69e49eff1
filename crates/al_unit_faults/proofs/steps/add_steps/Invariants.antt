use Rattle.std.proofs.Common.{map, take}
use Rattle.al_base.specs.Batch.{key_of}
use Rattle.al_unit_faults.specs.Steps.{AddsFrom}
use Rattle.al_unit_faults.proofs.steps.add_steps.Given as goal

abbrev pub invariant-loop-key : goal.invariant-loop-key
invariant-loop-key l = AddsFrom l.initial.graph l.graph l.from (map key_of l.units) (map key_of (take l.key-index l.keys))
