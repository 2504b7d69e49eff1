use Rattle.std.proofs.Common.{◌≡◌, ◌++◌, map, take}
use Rattle.al_check_start.specs.UnitsAt.{named_in}
use Rattle.al_check_start.proofs.hidden.add_names.Given as goal

abbrev pub invariant-loop-name : goal.invariant-loop-name
invariant-loop-name l = l.hidden ≡ l.fn.hidden ++ map (named_in l.unit) (take l.name-index l.names)
