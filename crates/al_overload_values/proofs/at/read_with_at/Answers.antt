use Rattle.std.proofs.Common.{ap, ◌∙◌}
use Rattle.al_base.specs.declared.place.Place.{Place}
use Rattle.al_overload_lookup.specs.Keys.{denoted}
use Rattle.al_overload_lookup.specs.Places.{first_place}
use Rattle.al_overload_lookup.specs.declared.denoted.Names.{Names}
use Rattle.al_overload_values.specs.TextsAt.{read_with}
use Rattle.al_tree.specs.ExpressionViews.{expression_model}
use Rattle.al_overload_values.proofs.at.read_with_at.Goals as goal

pub returns-clause-answered : goal.returns-clause-answered
returns-clause-answered g c t h =
    let answered = c.in_ok-names.ensures.answered t h in
    let l = c.args.labeller.now in
    let x = expression_model c.args.expression.now in (
      answered.0,
      c.in_ok-checked.ensures
          ∙ ap (λ (q : Place). read_with l.predefined l.own (denoted c.in_ok-names.names) q x) c.first_place.ensures
          ∙ ap (λ (n : Names). read_with l.predefined l.own (denoted n) (first_place x) x) answered.1,
    )
