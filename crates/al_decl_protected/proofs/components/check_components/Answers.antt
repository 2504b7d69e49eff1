use Rattle.std.proofs.Common.{refl, sym, ap, ◌∙◌, arith}
use Rattle.al_decl.specs.Defining.{defining_names}
use Rattle.al_tree.specs.DeclarationViews.{protected_component_model}
use Rattle.al_decl_protected.specs.Checks.{so_far}
use Rattle.al_decl_protected.specs.Components.{private_model}
use Rattle.al_decl_protected.proofs.Inner.{stays_same, stays_then, stays_there, stays_visible}
use Rattle.al_decl_protected.proofs.Lists.{components_end, components_more, components_stop}
use Rattle.al_decl_protected.proofs.components.check_components.Goals as goal

pub loop-text-init : goal.loop-text-init
loop-text-init g c = record { asked = refl; answered = λ t h. (h, refl); outer = stays_there c.args.scope.now; depth = refl }

pub loop-text-preserved : goal.loop-text-preserved
loop-text-preserved g c =
    let i = c.loop-text.invariant in
    let step = c.in_ok-check_component.ensures in
    let components = c.check_component.new.components in
    let names = defining_names (protected_component_model c.text-item.result).names in
    record {
      asked = c.check_component.ensures.asked ∙ i.asked;
      answered = λ t h. let made = step.answered t h in
          let before = i.answered t made.0 in
          let R = g.R.PartAnalyzer.reading c.args.analyzer.now t in
          let right = ap (so_far (private_model components)) (sym c.in-Ok.is) ∙ made.1 in
          (before.0, components_more R t c.loop-text.scope c.check_component.new.scope (private_model c.loop-text.components) c.args.texts.now c.loop-text.text-index c.text-item.result (private_model components) (omega arith) c.text-item.is step.scope right ∙ before.1);
      outer = stays_then _ _ _ i.outer (stays_then _ _ _ (stays_visible c.loop-text.scope names) (stays_same _ _ step.scope));
      depth = c.check_component.ensures.depth ∙ i.depth;
    }

pub returns-in-Err-clause-answered : goal.returns-in-Err-clause-answered
returns-in-Err-clause-answered g c t h =
    let made = c.in_ok-check_component.ensures.answered t h in
    let before = c.loop-text.invariant.answered t made.0 in
    let R = g.R.PartAnalyzer.reading c.args.analyzer.now t in
    let wrong = ap (so_far (private_model c.check_component.new.components)) (sym c.in-Err.is) ∙ made.1 in
    (before.0, components_stop R t c.loop-text.scope (private_model c.loop-text.components) c.args.texts.now c.loop-text.text-index c.text-item.result c.in-Err.fault (omega arith) c.text-item.is wrong ∙ before.1)

pub returns-in-Err-clause-outer : goal.returns-in-Err-clause-outer
returns-in-Err-clause-outer g c =
    let names = defining_names (protected_component_model c.text-item.result).names in
    stays_then _ _ _ c.loop-text.invariant.outer (stays_then _ _ _ (stays_visible c.loop-text.scope names) (stays_same _ _ c.in_ok-check_component.ensures.scope))

pub returns-clause-answered : goal.returns-clause-answered
returns-clause-answered g c t h =
    let before = c.loop-text.invariant.answered t h in
    let R = g.R.PartAnalyzer.reading c.args.analyzer.now t in
    (before.0, components_end R t c.loop-text.scope (private_model c.loop-text.components) c.args.texts.now c.loop-text.text-index (omega arith) ∙ before.1)
