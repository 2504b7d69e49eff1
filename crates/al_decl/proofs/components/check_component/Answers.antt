use Rattle.std.proofs.Common.{◌≡◌, List, ap, ◌∙◌}
use Rattle.al_decl_judged.specs.declared.names.DefiningName.{DefiningName}
use Rattle.al_decl.specs.Declaring.{begun}
use Rattle.al_decl.specs.Inner.{made_visible}
use Rattle.al_decl.specs.Defining.{defining_names}
use Rattle.al_tree.specs.DeclarationViews.{component_model}
use Rattle.al_decl.specs.Components.{named_parts, parts_of_both}
use Rattle.al_decl.specs.Founds.{found_model}
use Rattle.al_decl.proofs.Outcomes.{on_ok}
use Rattle.al_decl.proofs.components.check_component.Goals as goal

pub returns-clause-answered : goal.returns-clause-answered
returns-clause-answered g c =
    let k = component_model c.args.component.now in
    let same : c.as_slice-names.result.now ≡ defining_names k.names = c.as_slice-names.ensures ∙ c.in_ok-names.ensures in
    on_ok c.named_parts.result _ _
    (λ answered t h.
    let made = answered t h in
    let R = g.R.PartAnalyzer.reading c.args.analyzer.now t in
    (made.0, made.1 ∙ ap (λ (ns : List DefiningName). parts_of_both (found_model c.args.found.now) (named_parts R t c.args.scope.now k ns)) same))
    c.named_parts.ensures.answered

pub returns-clause-scope : goal.returns-clause-scope
returns-clause-scope g c =
    let k = component_model c.args.component.now in
    let same : c.as_slice-names.result.now ≡ defining_names k.names = c.as_slice-names.ensures ∙ c.in_ok-names.ensures in
    on_ok c.named_parts.result _ _
    (λ made. made ∙ ap (λ (ns : List DefiningName). made_visible (begun c.args.scope.now ns) ns) same)
    c.named_parts.ensures.scope
