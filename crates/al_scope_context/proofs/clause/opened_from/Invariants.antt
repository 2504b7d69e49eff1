use Rattle.std.proofs.Common.{◌≡◌, map, drop}
use Rattle.al_query.specs.Reads.{FromAnswers}
use Rattle.al_tree.specs.DeclarationViews.{compound_model}
use Rattle.al_scope_context.specs.UsesAt.{opened_from}
use Rattle.al_scope_context.proofs.clause.opened_from.Given as goal

abbrev pub invariant-loop-name : goal.invariant-loop-name
invariant-loop-name g l = record {
  asked : l.recorder.asked ≡ l.fn.recorder.asked;
  answered : FromAnswers l.fn.recorder.log l.recorder.log (λ t. opened_from t l.scope l.packages l.of_type l.clauses (map compound_model (drop l.name-index l.names)) ≡ opened_from t l.scope l.packages l.of_type l.fn.done (map compound_model l.names));
}
