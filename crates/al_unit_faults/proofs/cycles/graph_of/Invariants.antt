use Rattle.std.proofs.Common.{map}
use Rattle.al_unit_faults.specs.Numbers.{numbers_model, StepsBelow}
use Rattle.al_unit_faults.proofs.cycles.graph_of.Given as goal

abbrev pub invariant-loop-i : goal.invariant-loop-i
invariant-loop-i l = StepsBelow l.sources (map (λ n. n.now) l.files) (numbers_model l.numbers) l.i l.graph
