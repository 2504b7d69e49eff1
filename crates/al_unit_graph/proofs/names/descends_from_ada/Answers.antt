use Rattle.std.proofs.Common.{arith}
use Rattle.std.proofs.lemmas.Grind.{common_steps}
use Rattle.std.proofs.lemmas.List.Folds.{list_any-append}
use Rattle.al_unit_graph.proofs.NameLemmas.{ancestors_at_dot, ancestors_elsewhere}
use Rattle.al_unit_graph.proofs.names.descends_from_ada.Goals as goal
use Rattle.al_unit_graph.proofs.names.descends_from_ada.Goals.{else-name-i-eq46-via-then-name-i-eq46+else-eq, else-name-i-eq46-via-else-name-i-eq46}

pub loop-i-preserved : goal.loop-i-preserved
loop-i-preserved c = elim c.else-name-i-eq46.branch [
  | else-name-i-eq46-via-then-name-i-eq46+else-eq w ↦ grind (arith, common_steps, list_any-append, ancestors_at_dot c.args.name.now c.loop-i.i 0 c.loop-i-test.true w.if-name-i-eq46.true, c.loop-i.invariant, w.if-eq.false, w.eq.ensures, w.as_slice.ensures)
  | else-name-i-eq46-via-else-name-i-eq46 w ↦ grind (arith, common_steps, ancestors_elsewhere c.args.name.now c.loop-i.i 0 c.loop-i-test.true w.if-name-i-eq46.false, c.loop-i.invariant)
]
