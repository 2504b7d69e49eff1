use Rattle.al_tree.specs.Lexemes.{place_label}
use Rattle.al_tree.specs.UnitViews.{package_statements_model}
use Rattle.al_stmts_text.proofs.Read.{if_ok}
use Rattle.al_check_start.proofs.Units.{statements_made}
use Rattle.al_check_start.proofs.walk.check_package_statements.Goals as goal

pub returns-clause-answered : goal.returns-clause-answered
returns-clause-answered g c =
    if_ok c.check_after.result _ _
    (λ done answered t h.
    let inside = (rw c.new-enclosing.ensures at answered) t h in
    let entered = c.in_ok-statements_entered.ensures.answered t inside.0 in
    let closed = c.in_ok-close_part.ensures.answered t entered.0 in
    (closed.0, statements_made (g.R.Analyzer.reading t) _ _ _ _ _ _ (place_label c.args.statements.now.opening) (package_statements_model c.args.statements.now) closed.1 entered.1 inside.1))
    c.check_after.ensures.answered
