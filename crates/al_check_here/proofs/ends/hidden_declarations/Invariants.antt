use Rattle.std.proofs.Common.{◌≡◌, map, take}
use Rattle.al_check_here.specs.Ends.{hidden_declaration}
use Rattle.al_check_here.proofs.ends.hidden_declarations.Given as goal

abbrev pub invariant-loop-of : goal.invariant-loop-of
invariant-loop-of l = l.answered ≡ map (hidden_declaration l.names) (take l.of-index l.declarations)
