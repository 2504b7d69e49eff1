use Rattle.std.proofs.Common.{[], ◌∷◌, ◌∙◌, ap}
use Rattle.al_scope.specs.Places.{part_units}
use Rattle.al_scope.specs.UnitPlaces.{continued, declaration_parts, symbol_at}
use Rattle.al_scope.proofs.UnitPlaceLemmas.{asks-both, asks-parts, asks-same, asks-turned}
use Rattle.al_scope.proofs.unit_place.enter_ancestor.Goals as goal

pub returns-clause-answered : goal.returns-clause-answered
returns-clause-answered g c t h =
    let answered = c.in_ok-continue_parts.ensures.answered t h in
    let symbol = c.in_ok-symbol.ensures.answered t answered.0 in
    let sees = c.in_ok-sees_private.ensures.answered t symbol.0 in
    let before = c.args.scope.now.regions in
    let unit = c.args.unit.now in
    let parts = c.as_slice-parts.ensures ∙ c.in_ok-parts.ensures in (
      sees.0,
      answered.1
          ∙ ap (λ ps. continued t c.in_ok-symbol.symbol ps ps before) parts
          ∙ ap (λ o. continued t o (declaration_parts unit c.in_ok-sees_private.sees_private) (declaration_parts unit c.in_ok-sees_private.sees_private) before) symbol.1
          ∙ ap (λ b. continued t (symbol_at t unit) (declaration_parts unit b) (declaration_parts unit b) before) sees.1,
    )

pub returns-clause-asks : goal.returns-clause-asks
returns-clause-asks g c =
    let unit = c.args.unit.now in
    let old = c.args.recorder.now.log in
    let first = c.sees_private_part.new.recorder.log in
    let second = c.symbol_from.new.recorder.log in
    let new = c.continue_parts.new.recorder.log in
    let parts = asks-parts unit c.in_ok-sees_private.sees_private second new (asks-same (part_units c.as_slice-parts.result.now) (part_units (declaration_parts unit c.in_ok-sees_private.sees_private)) second new (ap part_units (c.as_slice-parts.ensures ∙ c.in_ok-parts.ensures)) c.in_ok-continue_parts.ensures.asks) in
    asks-turned unit c.args.nearer.now old first new c.in_ok-sees_private.ensures.asks (asks-both (unit ∷ []) first second new c.in_ok-symbol.ensures.asks parts)
