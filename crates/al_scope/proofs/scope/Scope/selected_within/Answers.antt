use Rattle.std.proofs.Common.{◌≡◌, ◌∙◌, [], List, Option, Some, None, ap, subst, sym}
use Rattle.std.specs.Option.{option_map, option_map_or}
use Rattle.al_view.specs.declared.view.ViewKind.{ViewKind}
use Rattle.al_scope.specs.declared.hiding.RegionEntry.{RegionEntry}
use Rattle.al_scope.specs.declared.region.Region.{Region}
use Rattle.al_scope.specs.Expanded.{IsSelected, region_of, within, within_parts}
use Rattle.al_scope.specs.Places.{Place}
use Rattle.al_scope.specs.Visible.{found_in}
use Rattle.al_scope.proofs.ExpandedLemmas.{within-selects}
use Rattle.al_scope.proofs.PartLemmas.{parts-of, parts-units}
use Rattle.al_scope.proofs.scope.Scope.selected_within.Goals as goal

pub returns-in_ok-found-in-Some-clause-answered : goal.returns-in_ok-found-in-Some-clause-answered
returns-in_ok-found-in-Some-clause-answered g c t h =
    let answered = c.in_ok-found-in-Some.ensures.answered t h in
    let name = c.args.name.now in
    let s = c.args.construct.now in
    let there = c.in-Some.ensures ∙ ap (region_of s) c.as_slice.ensures.value in (
      answered.0,
      ap (λ (f : RegionEntry). Some f.views) answered.1
          ∙ ap (option_map (λ (r : Region). (found_in t c.self.inside.mentioned name r).views)) there
          ∙ ap (λ (p : Place). within t p.mentioned name s p.regions) c.self.view_is,
    )

pub returns-in_ok-found-in-Some-clause-asks : goal.returns-in_ok-found-in-Some-clause-asks
returns-in_ok-found-in-Some-clause-asks g c =
    let s = c.args.construct.now in
    let there = c.in-Some.ensures ∙ ap (region_of s) c.as_slice.ensures.value in
    let parts = ap (λ o. option_map_or (λ (r : Region). r.parts) o []) there ∙ ap (within_parts s) c.self.view_is in
    parts-units (within_parts s c.args.self.now) c.args.name.now c.args.recorder.now.log c.find.new.recorder.log
    (parts-of c.in-Some.region.now.parts (within_parts s c.args.self.now) c.args.name.now c.args.recorder.now.log c.find.new.recorder.log parts c.in_ok-found-in-Some.ensures.asks)

pub returns-in_ok-found-in-Some-clause-selected : goal.returns-in_ok-found-in-Some-clause-selected
returns-in_ok-found-in-Some-clause-selected g c t h =
    let m = c.args.self.now.mentioned in
    let name = c.args.name.now in
    let s = c.args.construct.now in
    let regions = c.args.self.now.regions in
    let is = (returns-in_ok-found-in-Some-clause-answered g c t h).1 in
    subst (λ (o : Option (List ViewKind)). IsSelected t m name s regions o) (sym is) (within-selects t m name s regions)

pub returns-in-None-clause-selected : goal.returns-in-None-clause-selected
returns-in-None-clause-selected g c t h =
    let m = c.args.self.now.mentioned in
    let name = c.args.name.now in
    let s = c.args.construct.now in
    let regions = c.args.self.now.regions in
    let none = c.in-None.ensures ∙ ap (region_of s) c.as_slice.ensures.value ∙ ap (λ (p : Place). region_of s p.regions) c.self.view_is in
    let is : within t m name s regions ≡ None = ap (option_map (λ (r : Region). (found_in t m name r).views)) (sym none) in
    subst (λ (o : Option (List ViewKind)). IsSelected t m name s regions o) is (within-selects t m name s regions)
