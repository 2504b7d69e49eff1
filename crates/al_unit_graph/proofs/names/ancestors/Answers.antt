use Rattle.std.proofs.Common.{arith}
use Rattle.std.proofs.lemmas.Grind.{common_steps}
use Rattle.al_unit_graph.proofs.NameLemmas.{ancestors_at_dot, ancestors_elsewhere}
use Rattle.al_unit_graph.proofs.names.ancestors.Goals as goal
use Rattle.al_unit_graph.proofs.names.ancestors.Goals.{then-name-i-eq46+in_ok-push, else-name-i-eq46}

pub loop-i-preserved : goal.loop-i-preserved
loop-i-preserved c = elim c.if-name-i-eq46.branch [
  | then-name-i-eq46+in_ok-push w ↦ grind (arith, common_steps, ancestors_at_dot c.args.name.now c.loop-i.i 0 c.loop-i-test.true w.if-name-i-eq46.true, c.loop-i.invariant, w.in_ok-push.ensures, w.names-is)
  | else-name-i-eq46 w ↦ grind (arith, common_steps, ancestors_elsewhere c.args.name.now c.loop-i.i 0 c.loop-i-test.true w.if-name-i-eq46.false, c.loop-i.invariant, w.names-is)
]
