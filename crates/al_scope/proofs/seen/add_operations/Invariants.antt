use Rattle.std.proofs.Common.{◌≡◌, ◌++◌, take}
use Rattle.al_scope.specs.Recasts.{operation_types}
use Rattle.al_scope.specs.Seen.{full_views}
use Rattle.al_query.specs.Asked.{AsksOf, by_some_name}
use Rattle.al_query.specs.Reads.{FromAnswers}
use Rattle.al_scope.specs.Places.{place_units}
use Rattle.al_scope.proofs.seen.add_operations.Given as goal

abbrev pub invariant-loop-operation : goal.invariant-loop-operation
invariant-loop-operation g l = record {
  asked : l.recorder.asked ≡ l.fn.recorder.asked;
  answered : FromAnswers l.fn.recorder.log l.recorder.log (λ t. l.recasts ≡ l.fn.recasts ++ full_views t l.scope (operation_types (take l.operation-index l.operations)));
  asks : AsksOf (place_units l.scope) by_some_name l.fn.recorder.log l.recorder.log;
}
