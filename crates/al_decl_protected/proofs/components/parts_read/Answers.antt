use Rattle.std.proofs.Common.{Option, Result, ap, ◌∙◌}
use Rattle.std.specs.Prelude.{option_map}
use Rattle.al_base_fault.specs.Judging.{both, map_ok}
use Rattle.al_base_fault.specs.declared.fault.Fault.{Fault}
use Rattle.al_tree.specs.DeclarationViews.{protected_component_model}
use Rattle.al_view.specs.declared.view.SubtypeView.{SubtypeView}
use Rattle.al_view_typed.specs.ExpressionTrees.{TypedTree}
use Rattle.al_view_typed.specs.ExpressionViews.{typed_model}
use Rattle.al_view_typed.specs.declared.expression.Typed.{Typed}
use Rattle.al_decl_protected.specs.Components.{initial_read}
use Rattle.al_decl_protected.proofs.Parts.{both_second}
use Rattle.al_decl_protected.proofs.components.parts_read.Goals as goal

pub returns-in-Ok-clause-answered : goal.returns-in-Ok-clause-answered
returns-in-Ok-clause-answered g c t h =
    let value = c.in-Ok.ensures.answered t h in
    let of = c.in_ok-of.ensures.answered t value.0 in
    let R = g.R.PartAnalyzer.reading c.args.analyzer.now t in
    let place = c.args.scope.now in
    let k = protected_component_model c.args.component.now in (
      of.0,
      ap (map_ok (λ (p : SubtypeView × Option Typed). (p.0, option_map typed_model p.1))) c.both.ensures
          ∙ both_second (option_map typed_model) c.in_ok-of.of c.in-Ok.value
          ∙ ap (λ (v : Result (Option TypedTree) Fault). both c.in_ok-of.of v) value.1
          ∙ ap (λ (s : Result SubtypeView Fault). both s (initial_read R place s k.initial)) of.1,
    )
