use Rattle.std.proofs.Common.{Bool, [], ap, ◌∙◌, if◌then◌else◌}
use Rattle.al_tree.specs.UnitViews.{unit_model}
use Rattle.al_check_start.specs.UnitsAt.{unit_at}
use Rattle.al_check.specs.Ada.{private_part_at}
use Rattle.al_check.proofs.UnitResult.{if_ok}
use Rattle.al_check.proofs.finder.private_part_if.Goals as goal

pub returns-in-Ok-clause-answered : goal.returns-in-Ok-clause-answered
returns-in-Ok-clause-answered g c =
    if_ok c.private_part_where.result _ _
    (λ f answered t h. let found = answered t h in (
      found.0,
      found.1 ∙ ap (λ (b : Bool). if b then private_part_at t (unit_model c.args.tree.now) (unit_at t c.args.unit.now (unit_model c.args.tree.now)) else []) c.in-Ok.ensures,
    ))
    c.private_part_where.ensures.answered
