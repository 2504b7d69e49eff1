use Rattle.std.proofs.Common.{◌≡◌, List, take, map, refl, ap, ◌∙◌, arith}
use Rattle.std.proofs.lemmas.List.{take_all}
use Rattle.al_tree.specs.DeclarationViews.{component_model}
use Rattle.al_tree.specs.declared.declaration.ComponentDeclaration.{ComponentDeclaration}
use Rattle.al_decl.specs.Components.{parts_after}
use Rattle.al_decl.specs.Founds.{found_model}
use Rattle.al_decl.proofs.Lists.{more_after, more_parts}
use Rattle.al_decl.proofs.components.check_components.Goals as goal

pub loop-component-init : goal.loop-component-init
loop-component-init g c = record { asked = refl; answered = λ t h. (h, refl); scope = refl; depth = refl }

pub loop-component-preserved : goal.loop-component-preserved
loop-component-preserved g c =
    let i = c.loop-component.invariant in
    record {
      asked = c.check_component.ensures.asked ∙ i.asked;
      answered = λ t h. let answered = c.in_ok-check_component.ensures.answered t h in
          let before = i.answered t answered.0 in
          (before.0, more_parts (g.R.PartAnalyzer.reading c.args.analyzer.now t) t c.args.scope.now c.loop-component.scope c.args.components.now c.loop-component.component-index c.component-item.result (found_model c.args.found.now) (found_model c.loop-component.found) (found_model c.check_component.new.found) (omega arith) c.component-item.is i.scope before.1 answered.1);
      scope = more_after c.args.scope.now c.loop-component.scope c.check_component.new.scope c.args.components.now c.loop-component.component-index c.component-item.result (omega arith) c.component-item.is i.scope c.in_ok-check_component.ensures.scope;
      depth = c.check_component.ensures.depth ∙ i.depth;
    }

pub returns-clause-answered : goal.returns-clause-answered
returns-clause-answered g c t h =
    let before = c.loop-component.invariant.answered t h in
    let all : take c.loop-component.component-index c.args.components.now ≡ c.args.components.now = take_all c.loop-component.component-index c.args.components.now (omega arith) in
    (before.0, before.1 ∙ ap (λ (cs : List ComponentDeclaration). parts_after (g.R.PartAnalyzer.reading c.args.analyzer.now t) t c.args.scope.now (found_model c.args.found.now) (map component_model cs)) all)
