use Rattle.al_tree.specs.UnitViews.{package_model}
use Rattle.al_check_start.proofs.Units.{parts_made}
use Rattle.al_check_start.proofs.walk.check_parts.Goals as goal

pub returns-in-Ok-clause-answered : goal.returns-in-Ok-clause-answered
returns-in-Ok-clause-answered g c = λ t h.
    let hidden = c.in-Ok.ensures.answered t h in
    let visible = (rw c.deref.ensures.value at c.in_ok-check_declarations.ensures.answered) t hidden.0 in
    (visible.0, parts_made (g.R.Analyzer.reading t) _ _ _ _ _ (package_model c.args.declaration.now) c.new-so_far.ensures visible.1 hidden.1)
