use Rattle.std.proofs.Common.{◌≡◌, ◌++◌, map, take}
use Rattle.al_query.specs.Answers.{declaration}
use Rattle.al_check_start.proofs.mentions.add_declarations.Given as goal

abbrev pub invariant-loop-name : goal.invariant-loop-name
invariant-loop-name l = l.units.items ≡ l.fn.units.items ++ map declaration (map (λ n. n.now) (take l.name-index l.name-items))
