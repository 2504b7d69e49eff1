use Rattle.std.proofs.Common.{◌++◌, ◌∙◌, ap}
use Rattle.std.specs.List.{flat_map}
use Rattle.al_query.specs.Asked.{by_property}
use Rattle.al_query.proofs.AskLemmas.{asks_of-left, asks_of-right}
use Rattle.al_scope.specs.UnitPlaces.{ancestor_units, asked_units, library_name, outward_opened, own_declaration, stub_units}
use Rattle.al_scope.proofs.UnitPlaceLemmas.{asks-both, asks-same}
use Rattle.al_scope.proofs.private_part.enter_private_part.Goals as goal

pub returns-clause-answered : goal.returns-clause-answered
returns-clause-answered g c t h =
    let own = c.args.own.now in
    let before = c.args.scope.now.regions in
    let answered = c.in_ok-open_each.ensures.answered t h in
    let sees = c.in_ok-sees.ensures.answered t answered.0 in
    let units = c.as_slice.ensures.value ∙ c.in_ok-units.ensures.is ∙ ap ancestor_units c.library_name_of.ensures in (
      sees.0,
      answered.1
          ∙ ap (λ us. outward_opened t c.in_ok-sees.sees us before) units
          ∙ ap (λ b. outward_opened t b (ancestor_units (library_name own)) before) sees.1,
    )

pub returns-clause-asks : goal.returns-clause-asks
returns-clause-asks g c =
    let own = c.args.own.now in
    let old = c.args.recorder.now.log in
    let mid = c.sees_private_parts.new.recorder.log in
    let new = c.open_each.new.recorder.log in
    let far = ancestor_units (library_name own) in
    let round = flat_map stub_units own.stubs in
    let declaration = own_declaration own.unit in
    let units = c.as_slice.ensures.value ∙ c.in_ok-units.ensures.is ∙ ap ancestor_units c.library_name_of.ensures in
    let ancestors = asks-same c.as_slice.result.now far mid new units c.in_ok-open_each.ensures.asks in
    asks-both (asked_units own) old mid new
    (asks_of-right (far ++ round) declaration by_property old mid c.in_ok-sees.ensures.asks)
    (asks_of-left (far ++ round) declaration by_property mid new (asks_of-left far round by_property mid new ancestors))
