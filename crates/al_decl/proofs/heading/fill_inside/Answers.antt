use Rattle.std.proofs.Common.{ap, ◌∙◌}
use Rattle.al_scope.specs.Places.{Place}
use Rattle.al_tree.specs.DeclarationViews.{specification_model}
use Rattle.al_view.specs.Named.{Declarations}
use Rattle.al_decl.specs.Formals.{after_formals}
use Rattle.al_decl.specs.Heads.{filled, formals_of}
use Rattle.al_decl.proofs.FormalLists.{region-inner}
use Rattle.al_decl.proofs.heading.fill_inside.Goals as goal

abbrev with_mentioned : Place → Declarations → Place
with_mentioned place m = record { mentioned = m; regions = place.regions }

pub returns-clause-answered : goal.returns-clause-answered
returns-clause-answered g c t h =
    let answered = c.in_ok-fill.ensures.answered t h in
    let R = g.R.PartAnalyzer.reading c.args.analyzer.now t in
    (answered.0, answered.1 ∙ ap (λ (p : Place). filled R p (specification_model c.args.specification.now) c.args.heading.now) c.in_ok-enter_region.ensures.entered)

pub returns-clause-scope : goal.returns-clause-scope
returns-clause-scope g c =
    let place = c.args.scope.now in
    let fs = formals_of (specification_model c.args.specification.now) in
    let same = c.in_ok-fill.ensures.scope ∙ ap (λ (p : Place). after_formals p fs) c.in_ok-enter_region.ensures.entered in
    let inner = region-inner place fs in
    c.leave_region.ensures place.regions inner.1.0 (ap (λ (p : Place). p.regions) same ∙ inner.1.1)
    ∙ ap (with_mentioned place) (ap (λ (p : Place). p.mentioned) same ∙ inner.0)
