use Rattle.std.proofs.Common.{[], refl, subst, sym, ap, ◌∙◌}
use Rattle.al_decl.specs.Checking.{with_progress, with_scope}
use Rattle.al_decl.specs.declared.env.Environment.{Environment}
use Rattle.al_scope.specs.Places.{Place, entered}
use Rattle.al_tree.specs.DeclarationViews.{protected_model}
use Rattle.al_view.specs.Named.{Declarations}
use Rattle.al_decl_protected.specs.Checks.{IsInner, parts_model}
use Rattle.al_decl_protected.specs.Objects.{inside_after}
use Rattle.al_decl_protected.proofs.object.check_inside.Goals as goal

abbrev with_mentioned : Place → Declarations → Place
with_mentioned place m = record { mentioned = m; regions = place.regions }

pub returns-clause-answered : goal.returns-clause-answered
returns-clause-answered g c t h =
    let made = c.in_ok-checked.ensures.answered t h in
    let R = g.R.PartAnalyzer.reading c.args.analyzer.now t in
    let env = c.args.env.now in (
      made.0,
      made.1 ∙ ap (λ (p : Place). inside_after R t (with_scope env p) c.args.symbol.now (parts_model c.args.parts.now) (protected_model c.args.object.now)) c.in_ok-enter_region.ensures.entered,
    )

pub returns-clause-rest : goal.returns-clause-rest
returns-clause-rest g c =
    let env = c.args.env.now in
    let place = env.scope in
    let there = subst (λ (p : Place). IsInner place.regions place p) (sym c.in_ok-enter_region.ensures.entered) (refl, (entered [] place.regions, refl)) in
    let inner = c.in_ok-checked.ensures.outer place.regions place there in
    let left = c.leave_region.ensures place.regions inner.1.0 inner.1.1 ∙ ap (with_mentioned place) inner.0 in
    ap (λ (e : Environment). with_scope e c.leave_region.new.scope) c.in_ok-checked.ensures.rest
    ∙ ap (λ (p : Place). with_progress (with_scope env p) c.check_parts.new.env.progress) left
