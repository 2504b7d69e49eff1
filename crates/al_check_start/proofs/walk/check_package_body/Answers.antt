use Rattle.al_tree.specs.UnitViews.{package_body_model}
use Rattle.al_stmts_text.proofs.Read.{if_ok}
use Rattle.al_check_start.proofs.Units.{package_body_made}
use Rattle.al_check_start.proofs.walk.check_package_body.Goals as goal

pub returns-clause-answered : goal.returns-clause-answered
returns-clause-answered g c =
    if_ok c.ended.result _ _
    (λ done is t h.
    let inside = c.in_ok-inside.ensures.answered t h in
    let items = (rw c.deref.ensures.value at c.in_ok-check_items.ensures.answered) t inside.0 in
    (items.0, package_body_made (g.R.Analyzer.reading t) _ _ _ _ _ _ _ (package_body_model c.args.body.now) c.new-part.ensures items.1 inside.1 is))
    c.ended.ensures
