use Rattle.std.proofs.Common.{◌∙◌, [], ◌∷◌, ap}
use Rattle.std.specs.Option.{option_map, option_map_or}
use Rattle.std.specs.Prelude.{unwrap_or}
use Rattle.al_scope.specs.declared.hiding.RegionEntry.{RegionEntry}
use Rattle.al_scope.specs.declared.region.Region.{Region}
use Rattle.al_scope.specs.Expanded.{part_of, region_of, selected_at, selected_parts}
use Rattle.al_scope.specs.Places.{Place, part_units}
use Rattle.al_scope.specs.Visible.{declared_by, found_in}
use Rattle.al_query.specs.Asked.{by_name}
use Rattle.al_query.proofs.AskLemmas.{asks_of-same}
use Rattle.al_scope.proofs.PartLemmas.{parts-of, parts-units}
use Rattle.al_scope.proofs.scope.Scope.selected.Goals as goal

pub returns-in_ok-found-in-Some-clause-answered : goal.returns-in_ok-found-in-Some-clause-answered
returns-in_ok-found-in-Some-clause-answered g c t h =
    let answered = c.in_ok-found-in-Some.ensures.answered t h in
    let name = c.args.name.now in
    let s = c.args.prefix.now in
    let m = c.self.inside.mentioned in
    let there = c.in-Some.ensures ∙ ap (region_of s) c.as_slice.ensures.value in (
      answered.0,
      ap (λ (f : RegionEntry). f.views) answered.1
          ∙ ap (λ o. unwrap_or (option_map (λ (r : Region). (found_in t m name r).views) o) (declared_by t m name (part_of s))) there
          ∙ ap (λ (p : Place). selected_at t name s p) c.self.view_is,
    )

pub returns-in_ok-found-in-Some-clause-asks : goal.returns-in_ok-found-in-Some-clause-asks
returns-in_ok-found-in-Some-clause-asks g c =
    let s = c.args.prefix.now in
    let there = c.in-Some.ensures ∙ ap (region_of s) c.as_slice.ensures.value in
    let parts = ap (λ o. option_map_or (λ (r : Region). r.parts) o (part_of s ∷ [])) there ∙ ap (selected_parts s) c.self.view_is in
    parts-units (selected_parts s c.args.self.now) c.args.name.now c.args.recorder.now.log c.find.new.recorder.log
    (parts-of c.in-Some.region.now.parts (selected_parts s c.args.self.now) c.args.name.now c.args.recorder.now.log c.find.new.recorder.log parts c.in_ok-found-in-Some.ensures.asks)

pub returns-in_ok-views-in-None-clause-answered : goal.returns-in_ok-views-in-None-clause-answered
returns-in_ok-views-in-None-clause-answered g c t h =
    let answered = c.in_ok-views-in-None.ensures.answered t h in
    let name = c.args.name.now in
    let s = c.args.prefix.now in
    let place = c.args.self.now in
    let none = c.in-None.ensures ∙ ap (region_of s) c.as_slice.ensures.value ∙ ap (λ (p : Place). region_of s p.regions) c.self.view_is in
    (answered.0, answered.1 ∙ ap (λ o. unwrap_or (option_map (λ (r : Region). (found_in t place.mentioned name r).views) o) (declared_by t place.mentioned name (part_of s))) none)

pub returns-in_ok-views-in-None-clause-asks : goal.returns-in_ok-views-in-None-clause-asks
returns-in_ok-views-in-None-clause-asks g c =
    let s = c.args.prefix.now in
    let none = c.in-None.ensures ∙ ap (region_of s) c.as_slice.ensures.value ∙ ap (λ (p : Place). region_of s p.regions) c.self.view_is in
    let units = ap (λ o. part_units (option_map_or (λ (r : Region). r.parts) o (part_of s ∷ []))) none in
    asks_of-same (part_units (part_of s ∷ [])) (part_units (selected_parts s c.args.self.now)) (by_name (c.args.name.now ∷ [])) c.args.recorder.now.log c.declared_by.new.recorder.log units c.in_ok-views-in-None.ensures.asks
