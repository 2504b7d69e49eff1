use Rattle.std.proofs.Common.{length}
use Rattle.al_base_graph.proofs.AscendingLemmas.{IsCutting}
use Rattle.al_base_graph.proofs.walk.cut.Given as goal

abbrev pub invariant-numbers : goal.invariant-numbers
invariant-numbers l = IsCutting l.initial.numbers.items l.numbers.items l.most

abbrev pub decreases-numbers : goal.decreases-numbers
decreases-numbers l = length l.numbers.items
