use Rattle.std.proofs.Common.{◌≡◌, length, map, drop}
use Rattle.al_decl.specs.Checking.{with_progress, with_scope}
use Rattle.al_query.specs.Reads.{FromAnswers}
use Rattle.al_tree.specs.DeclarationViews.{protected_operation_model}
use Rattle.al_decl_protected.specs.Checks.{StaysInner}
use Rattle.al_decl_protected.specs.Operations.{operations_checked}
use Rattle.al_decl_protected.proofs.operation.check_operations.Given as goal

-- what is left gives, from here, what all give from the start
abbrev pub invariant-loop-text : goal.invariant-loop-text
invariant-loop-text g l = record {
  asked : l.recorder.asked ≡ l.fn.recorder.asked;
  answered : FromAnswers l.fn.recorder.log l.recorder.log (λ t. operations_checked (g.R.PartAnalyzer.reading l.analyzer t) t l.env l.object l.operations (map protected_operation_model (drop l.text-index l.texts)) ≡ operations_checked (g.R.PartAnalyzer.reading l.analyzer t) t l.fn.env l.object l.fn.operations (map protected_operation_model l.texts));
  outer : StaysInner l.fn.env.scope l.env.scope;
  rest : l.env ≡ with_progress (with_scope l.fn.env l.env.scope) l.env.progress;
  depth : length l.env.scope.regions ≡ length l.fn.env.scope.regions;
}
