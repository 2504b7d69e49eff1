use Rattle.std.proofs.Common.{ap, ◌∙◌}
use Rattle.al_base.specs.declared.place.Place.{Place}
use Rattle.al_base_fault.specs.Judging.{map_ok}
use Rattle.al_overload_lookup.specs.Places.{first_place}
use Rattle.al_tree.specs.ExpressionViews.{expression_model}
use Rattle.al_stmts.specs.Walking.{call_effect}
use Rattle.al_stmts_text.specs.PerformedViews.{call_effect_model}
use Rattle.al_stmts_text.proofs.MadeOfRead.{alone_by}
use Rattle.al_stmts_text.proofs.calls.check_call.Goals as goal

pub returns-clause-answered : goal.returns-clause-answered
returns-clause-answered g c = λ t h.
    let read = c.in_ok-done.ensures.answered t h in (
      read.0,
      λ enclosing. alone_by (call_effect (first_place (expression_model c.args.name.now)).line) _ _ _ _ read.1
          (c.performing.ensures ∙ ap (λ (p : Place). call_effect p.line (map_ok call_effect_model c.in_ok-done.done)) c.first_place.ensures),
    )
