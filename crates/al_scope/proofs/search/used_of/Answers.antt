use Rattle.std.proofs.Common.{◌∙◌, List, ap, subst, sym}
use Rattle.al_view.specs.declared.view.ViewKind.{ViewKind}
use Rattle.al_scope.specs.Places.{uses_at}
use Rattle.al_scope.specs.Visible.{potential, use_visible}
use Rattle.al_scope.specs.VisibleSet.{Once}
use Rattle.al_scope.proofs.DecideLemmas.{use_visible-none}
use Rattle.al_scope.proofs.OnceLemmas.{once-used}
use Rattle.al_scope.proofs.SearchLemmas.{use_visible-same}
use Rattle.al_scope.proofs.search.used_of.Goals as goal

pub returns-then-search-clause-answered : goal.returns-then-search-clause-answered
returns-then-search-clause-answered g c t h =
    (h, λ founds s. c.new.ensures ∙ sym (use_visible-none founds (potential t c.args.mentioned.now c.args.name.now (uses_at c.args.regions.now)) (sym s.decided ∙ c.if-search.true)))

pub returns-clause-answered : goal.returns-clause-answered
returns-clause-answered g c t h =
    let answered = c.in_ok-views.ensures.answered t h in
    let all = potential t c.args.mentioned.now c.args.name.now (uses_at c.args.regions.now) in (
      answered.0,
      λ founds s. c.in_ok-used.ensures.is
          ∙ ap (use_visible c.as_slice.result.now) answered.1
          ∙ ap (λ fs. use_visible fs all) c.as_slice.ensures.value
          ∙ use_visible-same c.args.search.now.founds.items founds all s.shuts,
    )

pub returns-clause-once : goal.returns-clause-once
returns-clause-once g c t h one apart =
    let answered = c.in_ok-views.ensures.answered t h in
    let is = c.in_ok-used.ensures.is ∙ ap (use_visible c.as_slice.result.now) answered.1 in
    subst (λ (l : List ViewKind). Once l) (sym is)
    (once-used t c.args.mentioned.now c.args.name.now (uses_at c.args.regions.now) c.as_slice.result.now c.in_ok-views.ensures.each one apart)
