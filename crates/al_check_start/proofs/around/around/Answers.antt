use Rattle.std.proofs.Common.{◌∙◌, ap}
use Rattle.al_check_start.specs.Starts.{with_halves}
use Rattle.al_check_start.proofs.around.around.Goals as goal

pub returns-clause-answered : goal.returns-clause-answered
returns-clause-answered g c t h =
    let units = c.in_ok-units.ensures.answered t h in
    let inner = c.in_ok-round.ensures.answered t units.0 in
    (inner.0, units.1 ∙ ap (with_halves t c.args.unit.now) inner.1)
