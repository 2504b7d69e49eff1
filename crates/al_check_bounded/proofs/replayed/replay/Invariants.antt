use Rattle.std.proofs.Common.{◌≡◌, drop}
use Rattle.al_query.specs.Asked.{AsksOf}
use Rattle.al_query.specs.Reads.{Agrees, FromAnswers}
use Rattle.al_query_outcome.specs.ReadsLaw.{AsksOthers}
use Rattle.al_check_bounded.specs.Bounding.{allowed, bounded}
use Rattle.al_check_bounded.proofs.replayed.replay.Given as goal

-- what is left decides
abbrev pub invariant-loop-i : goal.invariant-loop-i
invariant-loop-i g l = record {
  asked : l.recorder.asked ≡ l.fn.recorder.asked;
  answered : FromAnswers l.fn.recorder.log l.recorder.log (λ t. Agrees (bounded l.bounds t) (drop l.i l.log) → Agrees (bounded l.bounds t) l.log);
  asks : AsksOf l.bounds.known (allowed l.bounds) l.fn.recorder.log l.recorder.log;
  others : AsksOthers l.bounds.unit l.fn.recorder.log → AsksOthers l.bounds.unit l.recorder.log;
}
