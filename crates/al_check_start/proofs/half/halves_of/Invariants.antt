use Rattle.std.proofs.Common.{◌≡◌, take}
use Rattle.std.specs.List.{flat_map}
use Rattle.al_query.specs.Asked.{AsksOf, by_property}
use Rattle.al_query.specs.Reads.{FromAnswers}
use Rattle.al_check_start.specs.Starts.{AreLearned, OnlyOthers, half_of}
use Rattle.al_check_start.proofs.half.halves_of.Given as goal

abbrev pub invariant-loop-unit : goal.invariant-loop-unit
invariant-loop-unit g l = record {
  asked : l.recorder.asked ≡ l.fn.recorder.asked;
  answered : FromAnswers l.fn.recorder.log l.recorder.log (λ t. l.halves.items ≡ flat_map (half_of t l.own) (take l.unit-index l.units));
  asks : AsksOf l.units by_property l.fn.recorder.log l.recorder.log;
  others : OnlyOthers l.own l.fn.recorder.log l.recorder.log;
  learned : AreLearned l.recorder.log l.halves.items;
}
