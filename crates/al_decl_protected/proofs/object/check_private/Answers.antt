use Rattle.std.proofs.Common.{List, Option, map, sym, ap, ◌∙◌}
use Rattle.std.specs.Prelude.{option_map}
use Rattle.al_tree.specs.DeclarationViews.{protected_component_model, protected_private_model}
use Rattle.al_tree.specs.declared.declaration.ProtectedComponent.{ProtectedComponent}
use Rattle.al_tree.specs.declared.declaration.ProtectedPrivatePart.{ProtectedPrivatePart}
use Rattle.al_decl_protected.specs.Components.{components_checked, private_list, private_model}
use Rattle.al_decl_protected.proofs.Outcomes.{if_ok}
use Rattle.al_decl_protected.proofs.object.check_private.Goals as goal

pub returns-in-Some-clause-answered : goal.returns-in-Some-clause-answered
returns-in-Some-clause-answered g c =
    if_ok c.check_components.result _ _
    (λ checked answered t h.
    let known = answered t h in
    let R = g.R.PartAnalyzer.reading c.args.analyzer.now t in
    let place = c.args.env.now.scope in
    let before = private_model c.args.components.now in (
      known.0,
      known.1
          ∙ ap (λ (l : List ProtectedComponent). components_checked R t place before (map protected_component_model l)) c.as_slice-texts.ensures.value
          ∙ ap (λ (p : Option ProtectedPrivatePart). components_checked R t place before (private_list (option_map protected_private_model p))) (sym c.in-Some.is),
    ))
    c.check_components.ensures.answered
