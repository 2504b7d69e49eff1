use Rattle.std.proofs.Common.{◌∙◌, ◌&&◌, Bool, List, ap}
use Rattle.std.specs.List.{list_all}
use Rattle.al_base.specs.declared.unit_key.UnitKey.{UnitKey}
use Rattle.al_query.specs.Known.{has_unit}
use Rattle.al_scope.specs.UnitPlaces.{asked_units}
use Rattle.al_unit_graph.specs.Views.{header_model}
use Rattle.al_check_start.specs.Around.{around, is_in_body, opens_mentioned}
use Rattle.al_check_start.proofs.around.is_surrounded.Goals as goal

pub returns-clause-answered : goal.returns-clause-answered
returns-clause-answered g c t h =
    let opens = c.in_ok-opens.ensures.answered t h in
    let there = c.in_ok-there.ensures.answered t opens.0 in
    let own = c.args.own.now in
    let units = around t c.args.unit.now (header_model c.args.header.now) in
    let body = is_in_body own.unit own.stubs in
    let all = list_all (has_unit units) (asked_units own) in
    let inside = c.is_in_body.ensures ∙ ap (is_in_body own.unit) c.as_slice-2.ensures in
    let round = c.has_units.ensures
    ∙ ap (λ (us : List UnitKey). list_all (has_unit us) c.as_slice-4.result.now) (c.as_slice-3.ensures.value ∙ there.1)
    ∙ ap (list_all (has_unit units)) (c.as_slice-4.ensures.value ∙ c.in_ok-asked.ensures.is) in
    let opened = opens.1 ∙ ap (list_all (opens_mentioned t c.args.packages.now)) (c.as_slice.ensures.value ∙ c.in_ok-asked.ensures.is) in (
      there.0,
      c.all_three-whole.ensures
          ∙ ap (λ (b : Bool). b && (c.has_units.result && c.in_ok-opens.opens)) inside
          ∙ ap (λ (b : Bool). body && (b && c.in_ok-opens.opens)) round
          ∙ ap (λ (b : Bool). body && (all && b)) opened,
    )
