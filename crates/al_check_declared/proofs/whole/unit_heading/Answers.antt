use Rattle.std.proofs.Common.{ap}
use Rattle.al_check_declared.specs.WholeHere.{undotted}
use Rattle.al_check_declared.proofs.whole.unit_heading.Goals as goal

pub returns-clause-answered : goal.returns-clause-answered
returns-clause-answered g c t h = let read = c.in_ok-heading.ensures.answered t h in (read.0, ap undotted read.1)
