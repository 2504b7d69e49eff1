use Rattle.std.proofs.Common.{Option, Result, ap, ◌∙◌}
use Rattle.std.specs.Prelude.{option_map}
use Rattle.al_base_fault.specs.Judging.{map_ok, unless}
use Rattle.al_base_fault.specs.declared.fault.Fault.{Fault}
use Rattle.al_decl.specs.Inner.{made_visible}
use Rattle.al_decl.specs.Components.{names_fault}
use Rattle.al_scope.specs.Places.{Place}
use Rattle.al_tree.specs.DeclarationViews.{protected_component_model}
use Rattle.al_view.specs.declared.view.SubtypeView.{SubtypeView}
use Rattle.al_view_typed.specs.ExpressionTrees.{TypedTree}
use Rattle.al_view_typed.specs.ExpressionViews.{typed_model}
use Rattle.al_view_typed.specs.declared.expression.Typed.{Typed}
use Rattle.al_decl_protected.specs.Components.{parts_read, private_model, with_components}
use Rattle.al_decl_protected.proofs.Outcomes.{if_ok, on_ok}
use Rattle.al_decl_protected.proofs.components.component_named.Goals as goal

abbrev see : SubtypeView × Option Typed → SubtypeView × Option TypedTree
see p = (p.0, option_map typed_model p.1)

pub returns-clause-answered : goal.returns-clause-answered
returns-clause-answered g c =
    let add = with_components (private_model c.args.components.now) c.args.names.now in
    let place = c.args.scope.now in
    let k = protected_component_model c.args.component.now in
    if_ok c.visible_after.result _ _
    (λ checked made t h.
    let parts = c.in_ok-parts.ensures.answered t h in
    let fault = c.in_ok-fault.ensures.answered t parts.0 in
    let R = g.R.PartAnalyzer.reading c.args.analyzer.now t in (
      fault.0,
      made
          ∙ ap (λ (d : Option Fault). map_ok add (unless d (map_ok see c.in_ok-parts.parts))) fault.1
          ∙ ap (λ (r : Result (SubtypeView × Option TypedTree) Fault). map_ok add (unless (names_fault t place c.args.names.now) r)) (parts.1 ∙ ap (λ (p : Place). parts_read R p k) c.in_ok-begin.ensures.begun),
    ))
    c.visible_after.ensures.made

pub returns-clause-scope : goal.returns-clause-scope
returns-clause-scope g c =
    on_ok c.visible_after.result _ _
    (λ visible. visible ∙ ap (λ (p : Place). made_visible p c.args.names.now) c.in_ok-begin.ensures.begun)
    c.visible_after.ensures.scope
