use Rattle.std.proofs.Common.{◌≡◌, List, ap, ◌∙◌}
use Rattle.al_decl_judged.specs.declared.names.DefiningName.{DefiningName}
use Rattle.al_decl.specs.Declaring.{begun}
use Rattle.al_decl.specs.Inner.{made_visible}
use Rattle.al_decl.specs.Defining.{defining_names}
use Rattle.al_tree.specs.DeclarationViews.{protected_component_model}
use Rattle.al_decl_protected.specs.Components.{component_named, private_model}
use Rattle.al_decl_protected.proofs.Outcomes.{if_ok, on_ok}
use Rattle.al_decl_protected.proofs.components.check_component.Goals as goal

pub returns-clause-answered : goal.returns-clause-answered
returns-clause-answered g c =
    let k = protected_component_model c.args.component.now in
    let same : c.as_slice-names.result.now ≡ defining_names k.names = c.as_slice-names.ensures ∙ c.in_ok-names.ensures in
    if_ok c.component_named.result _ _
    (λ checked answered t h.
    let made = answered t h in
    let R = g.R.PartAnalyzer.reading c.args.analyzer.now t in
    (made.0, made.1 ∙ ap (λ (ns : List DefiningName). component_named R t c.args.scope.now (private_model c.args.components.now) k ns) same))
    c.component_named.ensures.answered

pub returns-clause-scope : goal.returns-clause-scope
returns-clause-scope g c =
    let k = protected_component_model c.args.component.now in
    let same : c.as_slice-names.result.now ≡ defining_names k.names = c.as_slice-names.ensures ∙ c.in_ok-names.ensures in
    on_ok c.component_named.result _ _
    (λ made. made ∙ ap (λ (ns : List DefiningName). made_visible (begun c.args.scope.now ns) ns) same)
    c.component_named.ensures.scope
