use Rattle.std.proofs.Common.{◌≡◌, take}
use Rattle.al_scope.specs.Seen.{completions_seen_at}
use Rattle.al_query.specs.Asked.{AsksOf, by_some_name}
use Rattle.al_query.specs.Reads.{FromAnswers}
use Rattle.al_scope.specs.Places.{place_units}
use Rattle.al_scope.proofs.seen.completions_seen_at.Given as goal

abbrev pub invariant-loop-completion : goal.invariant-loop-completion
invariant-loop-completion g l = record {
  asked : l.recorder.asked ≡ l.fn.recorder.asked;
  answered : FromAnswers l.fn.recorder.log l.recorder.log (λ t. l.seen ≡ completions_seen_at t l.scope (take l.completion-index l.completions));
  asks : AsksOf (place_units l.scope) by_some_name l.fn.recorder.log l.recorder.log;
}
