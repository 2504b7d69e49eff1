use Rattle.std.proofs.Common.{ℕ, List, ◌++◌, ap, ◌∙◌}
use Rattle.al_overload_lookup.specs.Keys.{dotted}
use Rattle.al_overload_lookup.specs.Lookups.{with_each}
use Rattle.al_view.specs.declared.view.ViewKind.{ViewKind}
use Rattle.al_overload_lookup.proofs.lookup.find_selected.Goals as goal

pub returns-clause-answered : goal.returns-clause-answered
returns-clause-answered g c t h =
    let answered = c.in_ok-add_each.ensures.answered t h in
    let key = c.as_slice-key.ensures.value ∙ c.in_ok-key.ensures in
    let views = c.as_slice-views.ensures ∙ c.in_ok-append.ensures ∙ ap (λ (vs : List ViewKind). vs ++ c.views.result.now) c.new-views.ensures ∙ c.views.ensures in (
      answered.0,
      answered.1
          ∙ ap (λ (k : List ℕ). with_each t c.args.scope.now c.args.packages.now k c.args.name.now c.args.names.now c.as_slice-views.result.now) key
          ∙ ap (λ (vs : List ViewKind). with_each t c.args.scope.now c.args.packages.now (dotted c.args.prefix.now c.args.name.now) c.args.name.now c.args.names.now vs) views,
    )
