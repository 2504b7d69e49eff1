use Rattle.std.proofs.Common.{map}
use Rattle.al_base.specs.Batch.{key_of}
use Rattle.al_unit_faults.specs.Steps.{StepsBelow}
use Rattle.al_unit_faults.proofs.steps.graph_of.Given as goal

abbrev pub invariant-loop-i : goal.invariant-loop-i
invariant-loop-i l = StepsBelow l.sources (map key_of l.units) l.i l.graph
