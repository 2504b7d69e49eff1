use Rattle.std.proofs.Common.{List, [], ◌∷◌, Option, Some, None, ap, ◌∙◌}
use Rattle.std.specs.Option.{option_map}
use Rattle.al_overload_lookup.proofs.Asked.{package-known, selected-among, within-among}
use Rattle.al_scope.proofs.Outcomes.{if_ok}
use Rattle.al_overload_lookup.specs.Lookups.{asked_units, construct_of, selected_by, selected_in}
use Rattle.al_query.proofs.AskLemmas.{asks_none, asks_of-left, asks_of-units, asks_of-wider, asks_then, by_name-some}
use Rattle.al_query.specs.Asked.{OfKnown, by_name, by_some_name}
use Rattle.al_scope.specs.Expanded.{selected_parts, within_parts}
use Rattle.al_scope.specs.Places.{part_units, place_units}
use Rattle.al_scope.specs.Seen.{all_seen_at}
use Rattle.al_view.specs.declared.symbol.Symbol.{Symbol}
use Rattle.al_view.specs.declared.view.ViewKind.{ViewKind}
use Rattle.al_overload_lookup.proofs.select.selected_in.Goals as goal

pub returns-in_ok-views-in-Some-2-clause-answered : goal.returns-in_ok-views-in-Some-2-clause-answered
unfolding selected_in
returns-in_ok-views-in-Some-2-clause-answered g c t h =
    let seen = c.in_ok-views-in-Some-2.ensures.answered t h in
    let answered = c.in_ok-views-in-Some.ensures.answered t seen.0 in (
      answered.0,
      ap (λ (vs : List ViewKind). Some vs) (seen.1 ∙ ap (all_seen_at t c.args.scope.now) (c.as_slice.ensures ∙ answered.1))
          ∙ ap (λ (o : Option Symbol). selected_by t c.args.scope.now c.args.name.now o (construct_of c.args.view.now)) c.in-Some.ensures,
    )

pub returns-in_ok-views-in-Some-construct_of-clause-answered : goal.returns-in_ok-views-in-Some-construct_of-clause-answered
unfolding selected_in
returns-in_ok-views-in-Some-construct_of-clause-answered g c =
    if_ok c.seen_if_any.result _ _
    (λ found made t h.
    let seen = made t h in
    let answered = c.in_ok-views-in-Some-construct_of.ensures.answered t seen.0 in (
      answered.0,
      seen.1
          ∙ ap (option_map (all_seen_at t c.args.scope.now)) answered.1
          ∙ ap (λ (k : Option Symbol). selected_by t c.args.scope.now c.args.name.now None k) c.in-Some-construct_of.ensures
          ∙ ap (λ (o : Option Symbol). selected_by t c.args.scope.now c.args.name.now o (construct_of c.args.view.now)) c.in-None.ensures,
    ))
    c.seen_if_any.ensures.answered

pub returns-in-None-construct_of-clause-answered : goal.returns-in-None-construct_of-clause-answered
unfolding selected_in
returns-in-None-construct_of-clause-answered g c t h = (
  h,
  ap (λ (k : Option Symbol). selected_by t c.args.scope.now c.args.name.now None k) c.in-None-construct_of.ensures
      ∙ ap (λ (o : Option Symbol). selected_by t c.args.scope.now c.args.name.now o (construct_of c.args.view.now)) c.in-None.ensures,
)

pub returns-in_ok-views-in-Some-2-clause-asks : goal.returns-in_ok-views-in-Some-2-clause-asks
returns-in_ok-views-in-Some-2-clause-asks g c =
    let place = c.args.scope.now in
    let packages = c.args.packages.now in
    let symbol = c.in-Some.symbol.now in
    let names = c.args.name.now ∷ [] in
    let units = asked_units place packages in
    asks_then (OfKnown units by_some_name) c.args.recorder.now.log c.selected.new.recorder.log c.all_seen_at.new.recorder.log
    (asks_of-wider units (by_name names) by_some_name c.args.recorder.now.log c.selected.new.recorder.log (by_name-some names)
    (asks_of-units (part_units (selected_parts symbol place)) units (by_name names) c.args.recorder.now.log c.selected.new.recorder.log
    (selected-among symbol place packages (package-known packages c.args.view.now symbol c.in-Some.ensures)) c.in_ok-views-in-Some.ensures.asks))
    (asks_of-left (place_units place) packages by_some_name c.selected.new.recorder.log c.all_seen_at.new.recorder.log c.in_ok-views-in-Some-2.ensures.asks)

pub returns-in_ok-views-in-Some-construct_of-clause-asks : goal.returns-in_ok-views-in-Some-construct_of-clause-asks
returns-in_ok-views-in-Some-construct_of-clause-asks g c =
    let place = c.args.scope.now in
    let packages = c.args.packages.now in
    let symbol = c.in-Some-construct_of.symbol.now in
    let names = c.args.name.now ∷ [] in
    let units = asked_units place packages in
    if_ok c.seen_if_any.result _ _
    (λ found later.
    asks_then (OfKnown units by_some_name) c.args.recorder.now.log c.selected_within.new.recorder.log c.seen_if_any.new.recorder.log
    (asks_of-wider units (by_name names) by_some_name c.args.recorder.now.log c.selected_within.new.recorder.log (by_name-some names)
    (asks_of-units (part_units (within_parts symbol place)) units (by_name names) c.args.recorder.now.log c.selected_within.new.recorder.log (within-among symbol place packages) c.in_ok-views-in-Some-construct_of.ensures.asks))
    (asks_of-left (place_units place) packages by_some_name c.selected_within.new.recorder.log c.seen_if_any.new.recorder.log later))
    c.seen_if_any.ensures.asks

pub returns-in-None-construct_of-clause-asks : goal.returns-in-None-construct_of-clause-asks
returns-in-None-construct_of-clause-asks g c = asks_none (OfKnown (asked_units c.args.scope.now c.args.packages.now) by_some_name) c.args.recorder.now.log
