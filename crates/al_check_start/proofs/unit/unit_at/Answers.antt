use Rattle.std.proofs.Common.{◌∙◌, ap}
use Rattle.al_tree.specs.UnitViews.{unit_model}
use Rattle.al_unit_graph.specs.Headers.{Header}
use Rattle.al_check_start.specs.UnitsAt.{headed_at, unit_at}
use Rattle.al_check_start.proofs.unit.unit_at.Goals as goal

pub returns-clause-answered : goal.returns-clause-answered
unfolding unit_at
returns-clause-answered g c t h =
    let answered = c.in_ok-start.ensures.answered t h in
    let text = unit_model c.args.text.now in
    (answered.0, answered.1 ∙ ap (λ (head : Header). headed_at t c.args.unit.now head text) c.in_ok-header.ensures)
