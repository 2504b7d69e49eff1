use Rattle.std.proofs.Common.{List, Result, map, sym, ap, ◌∙◌}
use Rattle.al_decl_judged.specs.declared.record.Part.{Part}
use Rattle.al_base_fault.specs.declared.fault.Fault.{Fault}
use Rattle.al_scope.specs.Places.{Place}
use Rattle.al_tree.specs.DeclarationViews.{component_model, components_model}
use Rattle.al_tree.specs.declared.declaration.ComponentDeclaration.{ComponentDeclaration}
use Rattle.al_tree.specs.declared.declaration.Components.{Components}
use Rattle.al_decl.specs.Components.{after_component, component_list, component_parts, parts_after, parts_of_both}
use Rattle.al_decl.specs.Founds.{found_model}
use Rattle.al_decl.proofs.Outcomes.{on_ok}
use Rattle.al_decl.proofs.record.check_parts.Goals as goal

pub returns-in_ok-check_component-in-Declared-clause-answered : goal.returns-in_ok-check_component-in-Declared-clause-answered
returns-in_ok-check_component-in-Declared-clause-answered g c =
    on_ok c.check_components.result _ _
    (λ answered t h.
    let later = answered t h in
    let first = c.in_ok-check_component-in-Declared.ensures.answered t later.0 in
    let R = g.R.PartAnalyzer.reading c.args.analyzer.now t in
    let so_far = found_model c.args.found.now in
    let scope = c.args.scope.now in
    let k = component_model c.in-Declared.first in
    let others = c.as_slice-others.result.now in
    let both = parts_of_both so_far (component_parts R t scope k) in (
      first.0,
      later.1
          ∙ ap (λ (r : Result (List Part) Fault). parts_after R t c.check_component.new.scope r (map component_model others)) first.1
          ∙ ap (λ (p : Place). parts_after R t p both (map component_model others)) c.in_ok-check_component-in-Declared.ensures.scope
          ∙ ap (λ (l : List ComponentDeclaration). parts_after R t (after_component scope k) both (map component_model l)) c.as_slice-others.ensures.value
          ∙ ap (λ (x : Components). parts_after R t scope so_far (component_list (components_model x))) (sym c.in-Declared.is),
    ))
    c.check_components.ensures.answered
