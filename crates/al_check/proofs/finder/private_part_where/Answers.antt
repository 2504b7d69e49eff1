use Rattle.std.proofs.Common.{Bool, [], ap, sym, ◌∙◌, if◌then◌else◌}
use Rattle.al_tree.specs.UnitViews.{unit_model}
use Rattle.al_check_start.specs.UnitsAt.{unit_at}
use Rattle.al_check.specs.Ada.{private_part_at}
use Rattle.al_check.proofs.UnitResult.{if_ok}
use Rattle.al_check.proofs.finder.private_part_where.Goals as goal

pub returns-then-wanted-clause-answered : goal.returns-then-wanted-clause-answered
returns-then-wanted-clause-answered g c =
    if_ok c.private_part_at.result _ _
    (λ f answered t h. let found = answered t h in (
      found.0,
      found.1 ∙ ap (λ (b : Bool). if b then private_part_at t (unit_model c.args.tree.now) (unit_at t c.args.unit.now (unit_model c.args.tree.now)) else []) (sym c.if-wanted.true),
    ))
    c.private_part_at.ensures.answered
