use Rattle.std.proofs.Common.{ap, ◌∙◌}
use Rattle.al_scope.specs.Places.{Place}
use Rattle.al_tree.specs.DeclarationViews.{components_model}
use Rattle.al_view.specs.Named.{Declarations}
use Rattle.al_decl.specs.Components.{after_components, component_list, parts_after}
use Rattle.al_decl.specs.Founds.{found_model}
use Rattle.al_decl.proofs.Lists.{region-inner}
use Rattle.al_decl.proofs.record.check_inside.Goals as goal

abbrev with_mentioned : Place → Declarations → Place
with_mentioned place m = record { mentioned = m; regions = place.regions }

pub returns-clause-answered : goal.returns-clause-answered
returns-clause-answered g c t h =
    let answered = c.in_ok-check_parts.ensures.answered t h in
    let R = g.R.PartAnalyzer.reading c.args.analyzer.now t in
    (answered.0, answered.1 ∙ ap (λ (p : Place). parts_after R t p (found_model c.args.found.now) (component_list (components_model c.args.components.now))) c.in_ok-enter_region.ensures.entered)

pub returns-clause-scope : goal.returns-clause-scope
returns-clause-scope g c =
    let place = c.args.scope.now in
    let cs = component_list (components_model c.args.components.now) in
    let same = c.in_ok-check_parts.ensures.scope ∙ ap (λ (p : Place). after_components p cs) c.in_ok-enter_region.ensures.entered in
    let inner = region-inner place cs in
    c.leave_region.ensures place.regions inner.1.0 (ap (λ (p : Place). p.regions) same ∙ inner.1.1)
    ∙ ap (with_mentioned place) (ap (λ (p : Place). p.mentioned) same ∙ inner.0)
