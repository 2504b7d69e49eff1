use Rattle.std.proofs.Common.{◌≡◌, length, map, take}
use Rattle.al_query.specs.Reads.{FromAnswers}
use Rattle.al_tree.specs.DeclarationViews.{component_model}
use Rattle.al_decl.specs.Components.{after_components, parts_after}
use Rattle.al_decl.specs.Founds.{found_model}
use Rattle.al_decl.proofs.components.check_components.Given as goal

abbrev pub invariant-loop-component : goal.invariant-loop-component
invariant-loop-component g l = record {
  asked : l.recorder.asked ≡ l.fn.recorder.asked;
  answered : FromAnswers l.fn.recorder.log l.recorder.log (λ t. found_model l.found ≡ parts_after (g.R.PartAnalyzer.reading l.analyzer t) t l.fn.scope (found_model l.fn.found) (map component_model (take l.component-index l.components)));
  scope : l.scope ≡ after_components l.fn.scope (map component_model (take l.component-index l.components));
  depth : length l.scope.regions ≡ length l.fn.scope.regions;
}
