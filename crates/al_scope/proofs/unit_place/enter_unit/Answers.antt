use Rattle.std.proofs.Common.{◌++◌, ◌∙◌, List, Some, ap}
use Rattle.std.specs.List.{flat_map}
use Rattle.al_query.specs.Asked.{by_property}
use Rattle.al_query.proofs.AskLemmas.{asks_of-left, asks_of-right}
use Rattle.al_scope.specs.declared.region.UnitPart.{UnitPart}
use Rattle.al_scope.specs.UnitPlaces.{ancestor_units, asked_units, at_stubs, continued, library_name, own_declaration, own_parts, own_uses, stub_units, with_clauses}
use Rattle.al_scope.proofs.UnitPlaceLemmas.{asks-both, asks-same}
use Rattle.al_scope.proofs.unit_place.enter_unit.Goals as goal

pub returns-clause-answered : goal.returns-clause-answered
returns-clause-answered g c t h =
    let own = c.args.own.now in
    let cont = c.in_ok-enter_own.ensures.answered t h in
    let at = c.in_ok-enter_stubs.ensures.answered t cont.0 in
    let round = c.in_ok-enter_round.ensures.answered t at.0 in
    let inner = at.1 ∙ ap (λ (ps : List UnitPart). at_stubs t ps c.enter_round.new.scope.regions) c.as_slice.ensures ∙ ap (at_stubs t own.stubs) round.1 in
    let all = cont.1 ∙ ap (continued t (Some own.symbol) (own_parts own.unit own.is_package) (own_uses own.unit own.is_package)) inner in
    (round.0, c.in_ok-use_each.ensures.regions ∙ ap (λ us. with_clauses us c.enter_own.new.scope.regions) c.as_slice-2.ensures ∙ ap (with_clauses own.uses) all)

pub returns-clause-asks : goal.returns-clause-asks
returns-clause-asks g c =
    let own = c.args.own.now in
    let before = c.args.recorder.now.log in
    let at-round = c.enter_round.new.recorder.log in
    let at-stubs = c.enter_stubs.new.recorder.log in
    let after = c.enter_own.new.recorder.log in
    let far = ancestor_units (library_name own) in
    let round = flat_map stub_units own.stubs in
    let declaration = own_declaration own.unit in
    let stubs = asks-same (flat_map stub_units c.as_slice.result.now) round at-round at-stubs (ap (flat_map stub_units) c.as_slice.ensures) c.in_ok-enter_stubs.ensures.asks in
    let inner = asks_of-left (far ++ round) declaration by_property at-round at-stubs (asks_of-right far round by_property at-round at-stubs stubs) in
    let last = asks_of-right (far ++ round) declaration by_property at-stubs after c.in_ok-enter_own.ensures.asks in
    asks-both (asked_units own) before at-stubs after (asks-both (asked_units own) before at-round at-stubs c.in_ok-enter_round.ensures.asks inner) last
