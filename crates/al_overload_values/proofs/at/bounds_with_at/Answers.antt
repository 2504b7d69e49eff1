use Rattle.std.proofs.Common.{Option, Result, ap, ◌∙◌}
use Rattle.al_base.specs.declared.place.Place.{Place}
use Rattle.al_base_fault.specs.Judging.{both, map_ok}
use Rattle.al_base_fault.specs.declared.fault.Fault.{Fault}
use Rattle.al_overload_lookup.specs.Lookups.{asked_units}
use Rattle.al_overload_values.proofs.Seen.{both_model}
use Rattle.al_overload_values.specs.TextsAt.{With, joined, term_with_at, term_with_model}
use Rattle.al_overload.specs.Terms.{TermTree}
use Rattle.al_overload.specs.declared.heads_term.Term.{Term}
use Rattle.al_overload_values.proofs.Composed.{asks_more}
use Rattle.al_tree.specs.ExpressionViews.{expression_model}
use Rattle.al_overload_values.proofs.at.bounds_with_at.Goals as goal

pub returns-clause-answered : goal.returns-clause-answered
returns-clause-answered g c t h =
    let later = c.in_ok-high.ensures.answered t h in
    let first = c.in_ok-low.ensures.answered t later.0 in
    let l = c.args.labeller.now in
    let low = expression_model c.args.range.now.low in
    let high = expression_model c.args.range.now.high in (
      first.0,
      c.joined.ensures
          ∙ ap (λ (r : Result ((Term × Option Fault) × (Term × Option Fault)) Fault). map_ok joined (map_ok (λ (b : (Term × Option Fault) × (Term × Option Fault)). (term_with_model b.0, term_with_model b.1)) r)) c.both.ensures
          ∙ ap (λ (r : Result (With TermTree × With TermTree) Fault). map_ok joined r) (both_model term_with_model c.in_ok-low.low c.in_ok-high.high)
          ∙ ap (λ (r : Result (With TermTree) Fault). map_ok joined (both (map_ok term_with_model c.in_ok-low.low) r)) later.1
          ∙ ap (λ (r : Result (With TermTree) Fault). map_ok joined (both r (term_with_at t c.args.scope.now c.args.packages.now l.predefined l.own c.first_place-at.result high))) first.1
          ∙ ap (λ (q : Place). map_ok joined (both (term_with_at t c.args.scope.now c.args.packages.now l.predefined l.own q low) (term_with_at t c.args.scope.now c.args.packages.now l.predefined l.own q high))) c.first_place-at.ensures,
    )

pub returns-clause-asks : goal.returns-clause-asks
returns-clause-asks g c =
    asks_more (asked_units c.args.scope.now c.args.packages.now) _ _ _ c.in_ok-low.ensures.asks c.in_ok-high.ensures.asks
