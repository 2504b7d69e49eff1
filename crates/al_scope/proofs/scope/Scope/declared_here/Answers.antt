use Rattle.std.proofs.Common.{◌≡◌, ◌<◌, ◌+◌, ◌-◌, [], length, arith, sym, ◌∙◌, ap}
use Rattle.al_view.specs.Interfaces.{views_of}
use Rattle.al_view.specs.Named.{Declarations}
use Rattle.al_scope.specs.declared.hiding.RegionEntry.{RegionEntry}
use Rattle.al_scope.specs.declared.region.Region.{Region}
use Rattle.al_scope.specs.Places.{Place, inner_declared, inner_parts}
use Rattle.al_scope.specs.Visible.{found_in, innermost}
use Rattle.al_scope.proofs.PartLemmas.{parts-of, parts-units}
use Rattle.al_scope.proofs.PlaceLemmas.{innermost-is, inner_declared-is, inner_parts-is}
use Rattle.al_scope.proofs.scope.Scope.declared_here.Goals as goal

pub returns-clause-answered : goal.returns-clause-answered
returns-clause-answered g c t h =
    let answered = c.in_ok-found.ensures.answered t h in
    let regions = ap (λ (p : Place). p.regions) c.self.view_is in
    let some : 0 < length c.self.inside.regions.items = rw regions c.requires in
    let last : c.len-last.result - 1 + 1 ≡ length c.self.inside.regions.items = omega (arith, some, c.len-last.ensures, c.self.inside.regions.ok.0) in
    let is = innermost-is t c.self.inside.mentioned c.args.name.now c.self.inside.regions.items (c.len-last.result - 1) c.index.result.now last in
    let found = answered.1 ∙ ap (found_in t c.self.inside.mentioned c.args.name.now) c.index.ensures in
    (answered.0, ap (λ (f : RegionEntry). f.views) found ∙ sym is ∙ ap (λ (p : Place). innermost t p.mentioned c.args.name.now p.regions) c.self.view_is)

pub returns-clause-asks : goal.returns-clause-asks
returns-clause-asks g c =
    let regions = ap (λ (p : Place). p.regions) c.self.view_is in
    let some : 0 < length c.self.inside.regions.items = rw regions c.requires in
    let last : c.len-last.result - 1 + 1 ≡ length c.self.inside.regions.items = omega (arith, some, c.len-last.ensures, c.self.inside.regions.ok.0) in
    let parts = ap (λ (r : Region). r.parts) c.index.ensures ∙ sym (inner_parts-is c.self.inside.regions.items (c.len-last.result - 1) c.index.result.now last) ∙ ap inner_parts regions in
    parts-units (inner_parts c.args.self.now.regions) c.args.name.now c.args.recorder.now.log c.find.new.recorder.log
    (parts-of c.index.result.now.parts (inner_parts c.args.self.now.regions) c.args.name.now c.args.recorder.now.log c.find.new.recorder.log parts c.in_ok-found.ensures.asks)

pub returns-in_err-found-clause-takes_none : goal.returns-in_err-found-clause-takes_none
returns-in_err-found-clause-takes_none g c no-part none =
    let regions = ap (λ (p : Place). p.regions) c.self.view_is in
    let some : 0 < length c.self.inside.regions.items = rw regions c.requires in
    let last : c.len-last.result - 1 + 1 ≡ length c.self.inside.regions.items = omega (arith, some, c.len-last.ensures, c.self.inside.regions.ok.0) in
    let region = c.index.result.now in
    let parts : region.parts ≡ [] = ap (λ (r : Region). r.parts) c.index.ensures ∙ sym (inner_parts-is c.self.inside.regions.items (c.len-last.result - 1) region last) ∙ ap inner_parts regions ∙ no-part in
    let declared : region.declared ≡ inner_declared c.args.self.now.regions = ap (λ (r : Region). r.declared) c.index.ensures ∙ sym (inner_declared-is c.self.inside.regions.items (c.len-last.result - 1) region last) ∙ ap inner_declared regions in
    let found = c.in_err-found.ensures.takes_none parts (ap (λ (d : Declarations). views_of d c.args.name.now) declared ∙ none) in
    absurd (cc)
