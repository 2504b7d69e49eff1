use Rattle.std.proofs.Common.{◌≡◌, length, map, drop}
use Rattle.al_query.specs.Reads.{FromAnswers}
use Rattle.al_tree.specs.DeclarationViews.{protected_component_model}
use Rattle.al_decl_protected.specs.Checks.{StaysInner}
use Rattle.al_decl_protected.specs.Components.{components_checked, private_model}
use Rattle.al_decl_protected.proofs.components.check_components.Given as goal

abbrev pub invariant-loop-text : goal.invariant-loop-text
invariant-loop-text g l = record {
  asked : l.recorder.asked ≡ l.fn.recorder.asked;
  answered : FromAnswers l.fn.recorder.log l.recorder.log (λ t. components_checked (g.R.PartAnalyzer.reading l.analyzer t) t l.scope (private_model l.components) (map protected_component_model (drop l.text-index l.texts)) ≡ components_checked (g.R.PartAnalyzer.reading l.analyzer t) t l.fn.scope (private_model l.fn.components) (map protected_component_model l.texts));
  outer : StaysInner l.fn.scope l.scope;
  depth : length l.scope.regions ≡ length l.fn.scope.regions;
}
