use Rattle.std.proofs.Common.{◌≡◌, ◌∙◌, ◌++◌, [], List, ap, cond, map, subst, sym}
use Rattle.al_view.specs.declared.view.ViewKind.{ViewKind}
use Rattle.al_view.specs.Named.{Declarations}
use Rattle.al_scope.specs.declared.region.Region.{Region}
use Rattle.al_scope.specs.Places.{Place, place_parts, region_parts, use_parts, uses_at}
use Rattle.al_scope.specs.Searches.{any_decides, searched, searched_parts}
use Rattle.al_scope.specs.Visible.{found_in, potential, use_visible, visible_at}
use Rattle.al_scope.specs.VisibleSet.{AreApart, DeclareOnce, Once}
use Rattle.al_scope.proofs.DistinctLemmas.{once-visible}
use Rattle.al_scope.proofs.PartLemmas.{parts-if, parts-of, parts-then, parts-units}
use Rattle.al_scope.proofs.VisibleLemmas.{visible-exactly_is}
use Rattle.al_scope.proofs.scope.Scope.visible.Goals as goal

abbrev the-place : Declarations → List Region → Place
the-place m rs = record { mentioned = m; regions = rs }

pub returns-clause-answered : goal.returns-clause-answered
returns-clause-answered g c t h =
    let name = c.args.name.now in
    let m = c.self.inside.mentioned in
    let regions = c.as_slice-regions.result.now in
    let here : Place = record { mentioned = m; regions = regions } in
    let same : here ≡ c.args.self.now = ap (λ (rs : List Region). the-place m rs) c.as_slice-regions.ensures.value ∙ c.self.view_is in
    let founds = map (found_in t m name) regions in
    let all = potential t m name (uses_at regions) in
    let more = c.in_ok-used.ensures.answered t h in
    let answered = c.in_ok-search.ensures.answered t more.0 in
    let used = more.1 founds answered.1 in
    let is : c.append_some.new.views ≡ visible_at t name here =
    c.in_ok-append_some.ensures.is
    ∙ ap (λ l. c.in_ok-search.search.direct ++ l) (c.as_slice.ensures ∙ used)
    ∙ ap (λ l. l ++ use_visible founds all) answered.1.views in
    (answered.0, subst (λ (p : Place). c.append_some.new.views ≡ visible_at t name p) same is)

pub returns-clause-exactly : goal.returns-clause-exactly
returns-clause-exactly g c t h v = visible-exactly_is t c.args.name.now c.args.self.now c.append_some.new.views (returns-clause-answered g c t h).1 v

pub returns-clause-once : goal.returns-clause-once
returns-clause-once g c t h none two apart =
    let name = c.args.name.now in
    let place = c.args.self.now in
    let m = c.self.inside.mentioned in
    let regions = c.as_slice-regions.result.now in
    let here : Place = record { mentioned = m; regions = regions } in
    let same : here ≡ place = ap (λ (rs : List Region). the-place m rs) c.as_slice-regions.ensures.value ∙ c.self.view_is in
    let two-here = subst (λ (p : Place). DeclareOnce t p.mentioned name (uses_at p.regions)) (sym same) two in
    let apart-here = subst (λ (p : Place). AreApart t p.mentioned name (uses_at p.regions)) (sym same) apart in
    let used : Once c.in_ok-used.used = c.in_ok-used.ensures.once t h two-here apart-here in
    let more = c.in_ok-used.ensures.answered t h in
    let answered = c.in_ok-search.ensures.answered t more.0 in
    let founds = map (found_in t place.mentioned name) place.regions in
    let all = potential t place.mentioned name (uses_at place.regions) in
    let used-is : c.in_ok-used.used ≡ use_visible founds all =
    more.1 (map (found_in t m name) regions) answered.1
    ∙ ap (λ (p : Place). use_visible (map (found_in t p.mentioned name) p.regions) (potential t p.mentioned name (uses_at p.regions))) same in
    let once = once-visible founds all none (subst (λ (l : List ViewKind). Once l) used-is used) in
    subst (λ (l : List ViewKind). Once l) (sym (returns-clause-answered g c t h).1) once

pub returns-clause-asks : goal.returns-clause-asks
returns-clause-asks g c =
    let name = c.args.name.now in
    let m = c.self.inside.mentioned in
    let regions = c.as_slice-regions.result.now in
    let old = c.args.recorder.now.log in
    let mid = c.search_outward.new.recorder.log in
    let new = c.used_of.new.recorder.log in
    let here : Place = record { mentioned = m; regions = regions } in
    let same : here ≡ c.args.self.now = ap (λ (rs : List Region). the-place m rs) c.as_slice-regions.ensures.value ∙ c.self.view_is in
    let both = parts-then (region_parts regions) (use_parts (uses_at regions)) name old mid new c.in_ok-search.ensures.asks (parts-if c.in_ok-search.search.is_decided (use_parts (uses_at regions)) name mid new c.in_ok-used.ensures.asks) in
    parts-units (place_parts c.args.self.now) name old new (parts-of (place_parts here) (place_parts c.args.self.now) name old new (ap place_parts same) both)

pub returns-clause-stops : goal.returns-clause-stops
returns-clause-stops g c t h =
    let name = c.args.name.now in
    let m = c.self.inside.mentioned in
    let regions = c.as_slice-regions.result.now in
    let old = c.args.recorder.now.log in
    let mid = c.search_outward.new.recorder.log in
    let new = c.used_of.new.recorder.log in
    let here : Place = record { mentioned = m; regions = regions } in
    let same : here ≡ c.args.self.now = ap (λ (rs : List Region). the-place m rs) c.as_slice-regions.ensures.value ∙ c.self.view_is in
    let packages = use_parts (uses_at regions) in
    let more = c.in_ok-used.ensures.answered t h in
    let answered = c.in_ok-search.ensures.answered t more.0 in
    let used = parts-of (cond c.in_ok-search.search.is_decided [] packages) (cond (any_decides t m name regions) [] packages) name mid new (ap (λ b. cond b [] packages) answered.1.decided) c.in_ok-used.ensures.asks in
    let both = parts-then (region_parts (searched t m name regions)) (cond (any_decides t m name regions) [] packages) name old mid new (c.in_ok-search.ensures.stops t more.0) used in
    parts-of (searched_parts t name here) (searched_parts t name c.args.self.now) name old new (ap (searched_parts t name) same) both
