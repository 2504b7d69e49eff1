use Rattle.std.proofs.Common.{◌≡◌, drop}
use Rattle.std.specs.Prelude.{fold}
use Rattle.al_query.specs.Reads.{FromAnswers}
use Rattle.al_scope_context.specs.Contexts.{all_mentioned, with_mention}
use Rattle.al_scope_context.proofs.mention.mention_all.Given as goal

abbrev pub invariant-loop-name : goal.invariant-loop-name
invariant-loop-name g l = record {
  asked : l.recorder.asked ≡ l.fn.recorder.asked;
  answered : FromAnswers l.fn.recorder.log l.recorder.log (λ t. fold (with_mention t l.own) (l.scope, l.packages) (drop l.name-index l.names) ≡ all_mentioned t l.own l.fn.scope l.fn.packages l.names);
  regions : l.scope.regions ≡ l.fn.scope.regions;
}
