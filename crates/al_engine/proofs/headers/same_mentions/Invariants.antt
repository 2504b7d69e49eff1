use Rattle.std.proofs.Common.{◌≡◌, map, take}
use Rattle.al_unit_graph.specs.Views.{mention_model}
use Rattle.al_engine.specs.GraphGraphs.{unplaced_mention}
use Rattle.al_engine.proofs.headers.same_mentions.Given as goal

abbrev pub invariant-loop-i : goal.invariant-loop-i
invariant-loop-i l = map unplaced_mention (map mention_model (take l.i l.a)) ≡ map unplaced_mention (map mention_model (take l.i l.b))
