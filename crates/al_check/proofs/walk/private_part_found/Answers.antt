use Rattle.std.proofs.Common.{ap, ◌∙◌}
use Rattle.al_tree.specs.UnitViews.{library_item_model, unit_model}
use Rattle.al_stmts.specs.Units.{unit_walked}
use Rattle.al_check_here.specs.Ends.{ends_of}
use Rattle.al_check_here.specs.declared.state.CheckState.{CheckState}
use Rattle.al_check_reading.specs.Ada.{ada}
use Rattle.al_view.specs.Named.{Declarations}
use Rattle.al_check.specs.Ada.{standing_of}
use Rattle.al_check.proofs.UnitResult.{if_ok}
use Rattle.al_check.proofs.walk.private_part_found.Goals as goal

pub returns-in-Ok-clause-answered : goal.returns-in-Ok-clause-answered
unfolding unit_model
returns-in-Ok-clause-answered g c =
    let item = library_item_model c.args.tree.now.item in
    if_ok c.private_part_from.result _ _
    (λ f answered t h. let found = answered t h in (
      found.0,
      found.1 ∙ ap (λ (s : CheckState). (ends_of (unit_walked (ada t) s item).0).parts.private_part) c.in-Ok.ensures.state
          ∙ ap (λ (d : Declarations). (ends_of (unit_walked (ada t) (standing_of d (unit_model c.args.tree.now) c.args.start) item).0).parts.private_part) c.new.ensures,
    ))
    c.private_part_from.ensures.answered
