use Rattle.std.proofs.Common.{◌≡◌, take}
use Rattle.std.specs.List.{flat_map}
use Rattle.al_query.specs.Asked.{AsksOf, by_property}
use Rattle.al_query.specs.Reads.{FromAnswers}
use Rattle.al_scope.specs.Places.{part_units}
use Rattle.al_scope.specs.UnitPlaces.{told_types}
use Rattle.al_scope.proofs.parts.told_types.Given as goal

abbrev pub invariant-loop-part : goal.invariant-loop-part
invariant-loop-part g l = record {
  asks : AsksOf (part_units (take l.part-index l.parts)) by_property l.fn.recorder.log l.recorder.log;
  asked : l.recorder.asked ≡ l.fn.recorder.asked;
  answered : FromAnswers l.fn.recorder.log l.recorder.log (λ t. l.names.items ≡ flat_map (told_types t) (take l.part-index l.parts));
}
