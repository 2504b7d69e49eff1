use Rattle.std.proofs.Common.{◌+◌, ◌*◌}
use Rattle.al_overload.proofs.part.+parts.Given as goal
use Rattle.al_overload.specs.declared.heads_term.Term.{size-Term}

abbrev pub decreases-part_of : goal.decreases-part_of
decreases-part_of l = 2 * size-Term l.term.now

abbrev pub decreases-inner_part : goal.decreases-inner_part
decreases-inner_part l = 2 * size-Term l.term.now + 1
