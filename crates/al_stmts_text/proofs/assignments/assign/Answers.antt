use Rattle.std.proofs.Common.{ap, ◌∙◌}
use Rattle.al_base.specs.declared.place.Place.{Place}
use Rattle.al_base_fault.specs.Judging.{map_ok}
use Rattle.al_overload_lookup.specs.Places.{first_place}
use Rattle.al_stmts.specs.Simple.{assigned, target_model}
use Rattle.al_tree.specs.ExpressionViews.{expression_model}
use Rattle.al_view_typed.specs.ExpressionViews.{typed_model}
use Rattle.al_stmts_text.proofs.MadeOfRead.{alone_by}
use Rattle.al_stmts_text.proofs.assignments.assign.Goals as goal

pub returns-clause-answered : goal.returns-clause-answered
returns-clause-answered g c = λ t h.
    let read = c.in_ok-value.ensures.answered t h in (
      read.0,
      alone_by (assigned (first_place (expression_model c.args.statement.now.target)).line (target_model c.args.target)) _ _ _ _ read.1
          (c.assignment.ensures ∙ ap (λ (p : Place). assigned p.line (target_model c.args.target) (map_ok typed_model c.in_ok-value.value)) c.first_place-line.ensures),
    )
