use Rattle.std.proofs.Common.{◌∙◌, ℕ, List, Option, Some, ap}
use Rattle.al_base.specs.declared.unit_key.UnitKey.{UnitKey}
use Rattle.al_scope.specs.declared.region.UnitPart.{UnitPart}
use Rattle.al_tree.specs.DeclarationViews.{compound_model}
use Rattle.al_view.specs.declared.view.ViewKind.{ViewKind}
use Rattle.al_scope_context.specs.ContextPragmas.{full_name}
use Rattle.al_query_outcome.specs.Left.{body_named, stub_view}
use Rattle.al_check_start.specs.Subunits.{stubs_round}
use Rattle.al_check_start.specs.declared.completed.Completed.{Completed}
use Rattle.al_check_start.proofs.completed.of_subunit.Goals as goal

abbrev made : Option ViewKind → UnitKey → List UnitPart → Completed
made v p s = record { view = v; parent = Some p; stubs = s }

pub returns-clause-answered : goal.returns-clause-answered
returns-clause-answered g c t h =
    let stubs = c.in_ok-stubs.ensures.answered t h in
    let parent = c.in_ok-parent.ensures.answered t stubs.0 in
    let view = c.in_ok-view.ensures.answered t parent.0 in
    let name = c.args.unit.now.name in
    let full = full_name (compound_model c.args.parent.now) in
    let v = stub_view t name full in
    let p = body_named t full in
    let seen = view.1 ∙ ap (λ (n : List ℕ). stub_view t n c.as_slice.result.now) c.as_slice-name.ensures ∙ ap (stub_view t name) (c.as_slice.ensures.value ∙ c.in_ok-full.ensures) in
    let above = parent.1 ∙ ap (body_named t) (c.as_slice-2.ensures.value ∙ c.in_ok-full.ensures) in
    let round = stubs.1 ∙ ap (λ (n : List ℕ). stubs_round t n c.as_slice-3.result.now) c.as_slice-name.ensures ∙ ap (stubs_round t name) (c.as_slice-3.ensures.value ∙ c.in_ok-full.ensures) in
    (view.0, ap (λ (x : Option ViewKind). made x c.in_ok-parent.parent c.in_ok-stubs.stubs) seen ∙ ap (λ (x : UnitKey). made v x c.in_ok-stubs.stubs) above ∙ ap (λ (x : List UnitPart). made v p x) round)
