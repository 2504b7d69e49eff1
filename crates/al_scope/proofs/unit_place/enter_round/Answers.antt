use Rattle.std.proofs.Common.{◌≡◌, [], ◌∷◌, ◌++◌, ◌∙◌, Bool, List, Some, ap}
use Rattle.std.specs.List.{flat_map}
use Rattle.al_base.specs.declared.unit_key.UnitKey.{UnitKey}
use Rattle.al_query.specs.Asked.{by_property}
use Rattle.al_query.proofs.AskLemmas.{asks_of-left, asks_of-right}
use Rattle.al_scope.specs.declared.region.Region.{Region}
use Rattle.al_scope.specs.UnitPlaces.{ancestor_units, asked_units, entered_as, inward, library_name, own_declaration, standard_parts, standard_symbol, stub_units}
use Rattle.al_scope.proofs.UnitPlaceLemmas.{asks-both, asks-same}
use Rattle.al_scope.proofs.unit_place.enter_round.Goals as goal

pub returns-clause-answered : goal.returns-clause-answered
returns-clause-answered g c t h =
    let own = c.args.own.now in
    let anc = c.in_ok-enter_ancestors.ensures.answered t h in
    let sees = c.in_ok-sees.ensures.answered t anc.0 in
    let start = c.args.scope.now.regions in
    let first = start ++ entered_as (Some standard_symbol) standard_parts start ∷ [] in
    let units : c.as_slice.result.now ≡ ancestor_units (library_name own) = c.as_slice.ensures.value ∙ c.in_ok-units.ensures.is ∙ ap ancestor_units c.library_name_of.ensures in
    let round = anc.1
    ∙ ap (λ (rs : List Region). inward t c.in_ok-sees.sees c.as_slice.result.now rs) c.in_ok-enter_standard.ensures.regions
    ∙ ap (λ (us : List UnitKey). inward t c.in_ok-sees.sees us first) units
    ∙ ap (λ (b : Bool). inward t b (ancestor_units (library_name own)) first) sees.1 in
    (sees.0, round)

pub returns-clause-asks : goal.returns-clause-asks
returns-clause-asks g c =
    let own = c.args.own.now in
    let before = c.args.recorder.now.log in
    let at-sees = c.sees_private_parts.new.recorder.log in
    let after = c.enter_ancestors.new.recorder.log in
    let far = ancestor_units (library_name own) in
    let round = flat_map stub_units own.stubs in
    let declaration = own_declaration own.unit in
    let sees = asks_of-right (far ++ round) declaration by_property before at-sees c.in_ok-sees.ensures.asks in
    let units = asks-same c.as_slice.result.now far at-sees after (c.as_slice.ensures.value ∙ c.in_ok-units.ensures.is ∙ ap ancestor_units c.library_name_of.ensures) c.in_ok-enter_ancestors.ensures.asks in
    let all = asks_of-left (far ++ round) declaration by_property at-sees after (asks_of-left far round by_property at-sees after units) in
    asks-both (asked_units own) before at-sees after sees all
