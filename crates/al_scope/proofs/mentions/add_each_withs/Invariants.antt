use Rattle.std.proofs.Common.{◌≡◌, ◌++◌, take}
use Rattle.std.specs.List.{flat_map}
use Rattle.al_query.specs.Asked.{AsksOf, by_property}
use Rattle.al_query.specs.Reads.{FromAnswers}
use Rattle.al_scope.specs.UnitPlaces.{lineages, withs_of}
use Rattle.al_scope.proofs.mentions.add_each_withs.Given as goal

abbrev pub invariant-loop-unit : goal.invariant-loop-unit
invariant-loop-unit g l = record {
  asks : AsksOf l.units by_property l.fn.recorder.log l.recorder.log;
  asked : l.recorder.asked ≡ l.fn.recorder.asked;
  answered : FromAnswers l.fn.recorder.log l.recorder.log (λ t. l.names.items ≡ l.fn.names.items ++ flat_map (λ u. lineages (withs_of t u)) (take l.unit-index l.units));
}
