use Rattle.std.proofs.Common.{◌≡◌, ◌++◌, take}
use Rattle.al_check_bounded.specs.Questions.{named_in}
use Rattle.al_check_bounded.proofs.queries.add_names.Given as goal

abbrev pub invariant-loop-name : goal.invariant-loop-name
invariant-loop-name l = l.queries.items ≡ l.fn.queries.items ++ named_in l.unit (take l.name-index l.names) l.part
