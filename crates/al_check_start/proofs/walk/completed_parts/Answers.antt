use Rattle.al_tree.specs.UnitViews.{package_model}
use Rattle.al_check_start.proofs.Units.{completed_made}
use Rattle.al_check_start.proofs.walk.completed_parts.Goals as goal

pub returns-clause-answered : goal.returns-clause-answered
returns-clause-answered g c = λ t h.
    let last = c.in_ok-complete_parts.ensures.answered t h in
    let parts = c.in_ok-part.ensures.answered t last.0 in
    (parts.0, completed_made (g.R.Analyzer.reading t) _ _ _ _ (package_model c.args.declaration.now).end.end parts.1 last.1)
