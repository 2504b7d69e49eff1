use Rattle.std.proofs.Common.{◌≡◌, ◌++◌, take}
use Rattle.al_scope.specs.Seen.{full_views}
use Rattle.al_query.specs.Asked.{AsksOf, by_some_name}
use Rattle.al_query.specs.Reads.{FromAnswers}
use Rattle.al_scope.specs.Places.{place_units}
use Rattle.al_scope.proofs.seen.add_fulls.Given as goal

abbrev pub invariant-loop-of : goal.invariant-loop-of
invariant-loop-of g l = record {
  asked : l.recorder.asked ≡ l.fn.recorder.asked;
  answered : FromAnswers l.fn.recorder.log l.recorder.log (λ t. l.recasts ≡ l.fn.recasts ++ full_views t l.scope (take l.of-index l.types));
  asks : AsksOf (place_units l.scope) by_some_name l.fn.recorder.log l.recorder.log;
}
