use Rattle.std.proofs.Common.{◌≡◌, length, drop, map}
use Rattle.std.specs.Prelude.{fold}
use Rattle.al_query.specs.Reads.{FromAnswers}
use Rattle.al_tree.specs.DeclarationViews.{compound_model}
use Rattle.al_scope_context.specs.Contexts.{withed}
use Rattle.al_scope_context.proofs.context.add_each_with.Given as goal

abbrev pub invariant-loop-name : goal.invariant-loop-name
invariant-loop-name g l = record {
  asked : l.recorder.asked ≡ l.fn.recorder.asked;
  answered : FromAnswers l.fn.recorder.log l.recorder.log (λ t. fold (withed t) l.context (map compound_model (drop l.name-index l.names)) ≡ fold (withed t) l.fn.context (map compound_model l.names));
  depth : length l.context.scope.regions ≡ length l.fn.context.scope.regions;
}
