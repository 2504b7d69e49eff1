use Rattle.std.proofs.Common.{take}
use Rattle.al_points.specs.Meanings.{AreMeanings}
use Rattle.al_points.proofs.looking.look_all_up.Given as goal

abbrev pub invariant-loop-name : goal.invariant-loop-name
invariant-loop-name g l = AreMeanings (g.A.Answers.table l.table) l.state (take l.name-index l.names) l.found.items
