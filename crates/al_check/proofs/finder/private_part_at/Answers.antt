use Rattle.std.proofs.Common.{ap, ◌∙◌}
use Rattle.al_tree.specs.UnitViews.{unit_model}
use Rattle.al_check.specs.Ada.{private_part_at}
use Rattle.al_check.proofs.UnitResult.{if_ok}
use Rattle.al_check.proofs.finder.private_part_at.Goals as goal

pub returns-in-Ok-clause-answered : goal.returns-in-Ok-clause-answered
returns-in-Ok-clause-answered g c =
    if_ok c.private_part_after.result _ _
    (λ found answered t h.
    let part = answered t h in
    let start = c.in-Ok.ensures.answered t part.0 in
    (start.0, part.1 ∙ ap (private_part_at t (unit_model c.args.tree.now)) start.1))
    c.private_part_after.ensures.answered
