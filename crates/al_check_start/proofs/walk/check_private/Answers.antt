use Rattle.std.proofs.Common.{sym, ◌∙◌}
use Rattle.al_tree.specs.UnitViews.{private_part_model}
use Rattle.al_stmts_text.proofs.Read.{on_ok}
use Rattle.al_check_start.proofs.Units.{no_private, private_made}
use Rattle.al_check_start.proofs.walk.check_private.Goals as goal

pub returns-in_ok-private_entered-in-Some-clause-answered : goal.returns-in_ok-private_entered-in-Some-clause-answered
returns-in_ok-private_entered-in-Some-clause-answered g c =
    rw c.in-Some.is
    (on_ok c.check_declarations.result _ _
    (λ answered t h.
    let all = (rw c.deref.ensures.value at answered) t h in
    let entered = c.in_ok-private_entered-in-Some.ensures.answered t all.0 in
    (entered.0, private_made (g.R.Analyzer.reading t) _ _ _ _ (private_part_model c.in-Some.part) (sym c.is_ended.ensures ∙ c.if-is_ended.false) entered.1 all.1))
    c.check_declarations.ensures.answered)

pub returns-in-None-clause-answered : goal.returns-in-None-clause-answered
returns-in-None-clause-answered g c = rw c.in-None.is (λ t h. (h, no_private (g.R.Analyzer.reading t) _ _))
