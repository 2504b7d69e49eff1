use Rattle.std.proofs.Common.{Option, Result, ap, ◌∙◌}
use Rattle.al_decl_judged.specs.TypeKinds.{array_declared}
use Rattle.al_decl.specs.TypeNames.{type_begun, type_duplicate}
use Rattle.al_base_fault.specs.declared.fault.Fault.{Fault}
use Rattle.al_scope.specs.Places.{Place}
use Rattle.al_tree.specs.DeclarationViews.{array_model}
use Rattle.al_view.specs.declared.view.SubtypeView.{SubtypeView}
use Rattle.al_decl.specs.Checking.{with_scope}
use Rattle.al_decl.proofs.Chains.{finishes, if_ok}
use Rattle.al_decl.proofs.definition.check_array.Goals as goal

pub returns-clause-answered : goal.returns-clause-answered
returns-clause-answered g c =
    let h = c.args.env.now in
    let n = c.args.name.now in
    let a = array_model c.args.array.now in
    if_ok c.finish.result _ _
    (λ checked made t agrees.
    let parts = c.in_ok-index.ensures.answered t agrees in
    let homograph = c.in_ok-duplicate.ensures.answered t parts.0 in
    let R = g.R.PartAnalyzer.reading c.args.analyzer.now t in (
      homograph.0,
      finishes _ _ h.progress _ _ _ made
          (c.in_ok-declared.ensures
          ∙ ap (λ (d : Option Fault). array_declared h.progress n d c.in_ok-index.index c.in_ok-index.component) homograph.1
          ∙ ap (λ (s : Result SubtypeView Fault). array_declared h.progress n (type_duplicate t h.scope n) s c.in_ok-index.component) (parts.1.0 ∙ ap (λ (p : Place). R.index p a.index) c.in_ok-begin_type.ensures.begun)
          ∙ ap (λ (s : Result SubtypeView Fault). array_declared h.progress n (type_duplicate t h.scope n) (R.index (type_begun h.scope n) a.index) s) (parts.1.1 ∙ ap (λ (p : Place). R.indication p a.component) c.in_ok-begin_type.ensures.begun))
          (ap (with_scope h) c.in_ok-begin_type.ensures.begun),
    ))
    c.finish.ensures.made
