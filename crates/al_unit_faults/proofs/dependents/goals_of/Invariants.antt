use Rattle.std.proofs.Common.{map}
use Rattle.al_unit_faults.specs.Dependents.{AreGoals}
use Rattle.al_unit_faults.specs.Numbers.{numbers_model}
use Rattle.al_unit_faults.proofs.dependents.goals_of.Given as goal

abbrev pub invariant-loop-i : goal.invariant-loop-i
invariant-loop-i l = AreGoals l.sources (map (λ n. n.now) l.files) (numbers_model l.numbers) l.flags l.i l.goals.items
