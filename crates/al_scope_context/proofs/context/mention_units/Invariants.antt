use Rattle.std.proofs.Common.{◌≡◌, length, drop}
use Rattle.std.specs.Prelude.{fold}
use Rattle.al_query.specs.Reads.{FromAnswers}
use Rattle.al_scope_context.specs.Contexts.{unit_mentioned}
use Rattle.al_scope_context.proofs.context.mention_units.Given as goal

abbrev pub invariant-loop-name : goal.invariant-loop-name
invariant-loop-name g l = record {
  asked : l.recorder.asked ≡ l.fn.recorder.asked;
  answered : FromAnswers l.fn.recorder.log l.recorder.log (λ t. fold (unit_mentioned t) l.context (drop l.name-index l.names) ≡ fold (unit_mentioned t) l.fn.context l.names);
  depth : length l.context.scope.regions ≡ length l.fn.context.scope.regions;
}
