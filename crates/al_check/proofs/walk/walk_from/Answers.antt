use Rattle.std.proofs.Common.{ap, ◌∙◌}
use Rattle.al_tree.specs.UnitViews.{library_item_model, unit_model}
use Rattle.al_stmts.specs.Units.{unit_walked}
use Rattle.al_check_here.specs.declared.state.CheckState.{CheckState}
use Rattle.al_check_reading.specs.Ada.{ada}
use Rattle.al_check_bounded.specs.declared.after.UnitFacts.{UnitFacts}
use Rattle.al_check.specs.Ada.{ended_after, round_of}
use Rattle.al_check.proofs.UnitResult.{if_ok}
use Rattle.al_check.proofs.walk.walk_from.Goals as goal

pub returns-in-Ok-clause-answered : goal.returns-in-Ok-clause-answered
unfolding unit_model
returns-in-Ok-clause-answered g c =
    let item = library_item_model c.args.tree.now.item in
    if_ok c.walk.result _ _
    (λ f answered t h. let found = answered t h in (
      found.0,
      found.1
          ∙ ap (λ (r : UnitFacts). ended_after r (unit_walked (ada t) c.in-Ok.begun.state item)) c.in-Ok.ensures.unit_facts
          ∙ ap (λ (s : CheckState). ended_after (round_of (unit_model c.args.tree.now) c.args.start) (unit_walked (ada t) s item)) c.in-Ok.ensures.state,
    ))
    c.walk.ensures.answered
