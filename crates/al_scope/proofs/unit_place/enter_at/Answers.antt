use Rattle.std.proofs.Common.{[], ◌∷◌, ◌++◌, ◌∙◌, ap}
use Rattle.std.specs.Option.{option_copied}
use Rattle.al_scope.specs.Places.{part_units}
use Rattle.al_scope.specs.UseClauses.{package_unit}
use Rattle.al_scope.specs.UnitPlaces.{continued, is_body, is_package_view, own_parts, own_uses, view_symbol}
use Rattle.al_scope.proofs.UnitPlaceLemmas.{asks-same, asks-stub}
use Rattle.al_scope.proofs.unit_place.enter_at.Goals as goal

pub returns-clause-answered : goal.returns-clause-answered
returns-clause-answered g c t h =
    let stub = c.args.stub.now in
    let view = option_copied c.args.view in
    let before = c.args.scope.now.regions in
    let answered = c.in_ok-continue_parts.ensures.answered t h in
    let parts = c.as_slice.ensures ∙ c.in_ok-parts.ensures ∙ ap (λ b. own_parts stub.unit b ++ stub ∷ []) c.is_package-packaged.ensures in
    let used = c.as_slice-2.ensures ∙ c.in_ok-used.ensures ∙ ap (λ b. own_uses stub.unit b ++ stub ∷ []) c.is_package-packaged.ensures in (
      answered.0,
      answered.1
          ∙ ap (λ o. continued t o c.as_slice.result.now c.as_slice-2.result.now before) c.in_ok-symbol.ensures.is
          ∙ ap (λ ps. continued t (view_symbol view) ps c.as_slice-2.result.now before) parts
          ∙ ap (λ us. continued t (view_symbol view) (own_parts stub.unit (is_package_view view) ++ stub ∷ []) us before) used,
    )

pub returns-clause-asks : goal.returns-clause-asks
returns-clause-asks g c =
    let stub = c.args.stub.now in
    let view = option_copied c.args.view in
    let old = c.args.recorder.now.log in
    let new = c.continue_parts.new.recorder.log in
    let used = c.as_slice-2.ensures ∙ c.in_ok-used.ensures ∙ ap (λ b. own_uses stub.unit b ++ stub ∷ []) c.is_package-packaged.ensures in
    asks-stub (package_unit stub.unit.name) (is_body stub.unit) (is_package_view view) stub old new
    (asks-same (part_units c.as_slice-2.result.now) (part_units (own_uses stub.unit (is_package_view view) ++ stub ∷ [])) old new (ap part_units used) c.in_ok-continue_parts.ensures.asks)
