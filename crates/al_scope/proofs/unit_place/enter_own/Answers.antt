use Rattle.std.proofs.Common.{◌∙◌, Some, ap}
use Rattle.al_scope.specs.Places.{part_units}
use Rattle.al_scope.specs.UseClauses.{package_unit}
use Rattle.al_scope.specs.UnitPlaces.{continued, is_body, own_parts, own_uses}
use Rattle.al_scope.proofs.UnitPlaceLemmas.{asks-own, asks-same}
use Rattle.al_scope.proofs.unit_place.enter_own.Goals as goal

pub returns-clause-answered : goal.returns-clause-answered
returns-clause-answered g c t h =
    let own = c.args.own.now in
    let before = c.args.scope.now.regions in
    let answered = c.in_ok-continue_parts.ensures.answered t h in (
      answered.0,
      answered.1
          ∙ ap (λ s. continued t (Some s) c.as_slice.result.now c.as_slice-2.result.now before) c.in_ok-symbol.ensures
          ∙ ap (λ ps. continued t (Some own.symbol) ps c.as_slice-2.result.now before) (c.as_slice.ensures ∙ c.in_ok-parts.ensures.is)
          ∙ ap (λ ps. continued t (Some own.symbol) (own_parts own.unit own.is_package) ps before) (c.as_slice-2.ensures ∙ c.in_ok-used.ensures.is),
    )

pub returns-clause-asks : goal.returns-clause-asks
returns-clause-asks g c =
    let own = c.args.own.now in
    let old = c.args.recorder.now.log in
    let new = c.continue_parts.new.recorder.log in
    asks-own (package_unit own.unit.name) (is_body own.unit) own.is_package old new
    (asks-same (part_units c.as_slice-2.result.now) (part_units (own_uses own.unit own.is_package)) old new (ap part_units (c.as_slice-2.ensures ∙ c.in_ok-used.ensures.is)) c.in_ok-continue_parts.ensures.asks)
