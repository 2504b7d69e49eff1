use Rattle.std.proofs.Common.{arith}
use Rattle.std.proofs.lemmas.Grind.{common_steps}
use Rattle.al_unit_graph.proofs.NameLemmas.{ancestors_at_dot, ancestors_elsewhere, last_or-push}
use Rattle.al_unit_graph.proofs.names.parent_of.Goals as goal
use Rattle.al_unit_graph.proofs.names.parent_of.Goals.{then-name-i-eq46, else-name-i-eq46}

pub loop-i-preserved : goal.loop-i-preserved
loop-i-preserved c = elim c.if-name-i-eq46.branch [
  | then-name-i-eq46 w ↦ grind (arith, common_steps, last_or-push, ancestors_at_dot c.args.name.now c.loop-i.i 0 c.loop-i-test.true w.if-name-i-eq46.true, c.loop-i.invariant, w.parent-is)
  | else-name-i-eq46 w ↦ grind (arith, common_steps, ancestors_elsewhere c.args.name.now c.loop-i.i 0 c.loop-i-test.true w.if-name-i-eq46.false, c.loop-i.invariant, w.parent-is)
]
