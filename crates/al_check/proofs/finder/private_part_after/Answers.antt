use Rattle.std.proofs.Common.{ap, sym, ◌∙◌}
use Rattle.al_tree.specs.UnitViews.{unit_model}
use Rattle.al_check.specs.Ada.{private_part_at}
use Rattle.al_check.proofs.UnitResult.{if_ok}
use Rattle.al_check.proofs.finder.private_part_after.Goals as goal

pub returns-in-Ok-clause-answered : goal.returns-in-Ok-clause-answered
returns-in-Ok-clause-answered g c =
    if_ok c.private_part_found.result _ _
    (λ found answered t h. let part = answered t h in (part.0, part.1 ∙ ap (private_part_at t (unit_model c.args.tree.now)) (sym c.in-Ok.is)))
    c.private_part_found.ensures.answered

pub returns-in-Err-clause-answered : goal.returns-in-Err-clause-answered
returns-in-Err-clause-answered g c t h = (h, c.new.ensures ∙ ap (private_part_at t (unit_model c.args.tree.now)) (sym c.in-Err.is))
