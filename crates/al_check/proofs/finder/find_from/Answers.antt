use Rattle.std.proofs.Common.{ap, subst, sym, ◌∙◌}
use Rattle.al_tree.specs.UnitViews.{unit_model}
use Rattle.al_query.specs.Reads.{Agrees, Log}
use Rattle.al_check.specs.Ada.{verdict_with}
use Rattle.al_check.proofs.UnitResult.{if_both, if_ok}
use Rattle.al_check.proofs.finder.find_from.Goals as goal

pub returns-in-Ok-clause-answered : goal.returns-in-Ok-clause-answered
returns-in-Ok-clause-answered g c =
    if_ok c.walk_from.result _ _
    (λ f answered t h. let found = answered t h in (found.0, found.1 ∙ ap (verdict_with t c.args.private_part c.args.unit.now (unit_model c.args.tree.now)) (sym c.in-Ok.is)))
    c.walk_from.ensures.answered

pub returns-in-Err-clause-answered : goal.returns-in-Err-clause-answered
returns-in-Err-clause-answered g c =
    if_both c.faulty.result _ _ _
    (λ f l v t h.
    (subst (λ (x : Log). Agrees t x) l h, v ∙ ap (verdict_with t c.args.private_part c.args.unit.now (unit_model c.args.tree.now)) (sym c.in-Err.is)))
    c.faulty.ensures.log c.faulty.ensures.finding
