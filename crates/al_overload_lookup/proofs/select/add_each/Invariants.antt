use Rattle.std.proofs.Common.{◌≡◌, take}
use Rattle.al_overload_lookup.specs.Lookups.{asked_units, with_each}
use Rattle.al_query.specs.Asked.{AsksOf, by_some_name}
use Rattle.al_query.specs.Reads.{FromAnswers}
use Rattle.al_overload_lookup.proofs.select.add_each.Given as goal

abbrev pub invariant-loop-view : goal.invariant-loop-view
invariant-loop-view g l = record {
  asked : l.recorder.asked ≡ l.fn.recorder.asked;
  answered : FromAnswers l.fn.recorder.log l.recorder.log (λ t. l.names ≡ with_each t l.scope l.packages l.key l.name l.fn.names (take l.view-index l.views));
  asks : AsksOf (asked_units l.scope l.packages) by_some_name l.fn.recorder.log l.recorder.log;
}
