use Rattle.std.proofs.Common.{◌≡◌, ◌<◌, length, drop, map}
use Rattle.al_query.specs.Reads.{FromAnswers}
use Rattle.al_tree.specs.UnitViews.{context_model}
use Rattle.al_scope_context.specs.Contexts.{context_at, with_items}
use Rattle.al_scope_context.proofs.context.context_at.Given as goal

abbrev pub invariant-loop-item : goal.invariant-loop-item
invariant-loop-item g l = record {
  asked : l.recorder.asked ≡ l.fn.recorder.asked;
  answered : FromAnswers l.fn.recorder.log l.recorder.log (λ t. with_items t l.context (map context_model (drop l.item-index l.items)) ≡ context_at t (map context_model l.items));
  depth : 0 < length l.context.scope.regions;
}
