use Rattle.std.proofs.Common.{◌∙◌, [], ap}
use Rattle.std.specs.Option.{option_map_or}
use Rattle.al_scope.specs.declared.region.Region.{Region}
use Rattle.al_scope.specs.Expanded.{told_in, unit_parts, unit_region, within_unit}
use Rattle.al_scope.proofs.PartLemmas.{parts-of, parts-units}
use Rattle.al_scope.proofs.scope.Scope.within_unit.Goals as goal

pub returns-in_ok-views-in-Some-clause-answered : goal.returns-in_ok-views-in-Some-clause-answered
returns-in_ok-views-in-Some-clause-answered g c t h =
    let answered = c.in_ok-views-in-Some.ensures.answered t h in
    let name = c.args.name.now in
    let u = c.args.unit.now in
    let there = c.in-Some.ensures ∙ ap (unit_region u) c.as_slice.ensures.value in (
      answered.0,
      answered.1 ∙ ap (λ o. option_map_or (told_in t c.self.inside.mentioned name) o []) there ∙ ap (within_unit t name u) c.self.view_is,
    )

pub returns-in_ok-views-in-Some-clause-asks : goal.returns-in_ok-views-in-Some-clause-asks
returns-in_ok-views-in-Some-clause-asks g c =
    let u = c.args.unit.now in
    let there = c.in-Some.ensures ∙ ap (unit_region u) c.as_slice.ensures.value in
    let parts = ap (λ o. option_map_or (λ (r : Region). r.parts) o []) there ∙ ap (unit_parts u) c.self.view_is in
    parts-units (unit_parts u c.args.self.now) c.args.name.now c.args.recorder.now.log c.find_told.new.recorder.log
    (parts-of c.in-Some.region.now.parts (unit_parts u c.args.self.now) c.args.name.now c.args.recorder.now.log c.find_told.new.recorder.log parts c.in_ok-views-in-Some.ensures.asks)
