use Rattle.std.proofs.Common.{◌≡◌, map, take}
use Rattle.al_decl_judged.specs.DefiningNames.{names_of}
use Rattle.al_decl.specs.Declaring.{duplicates}
use Rattle.al_query.specs.Asked.{AsksOf, by_name}
use Rattle.al_query.specs.Reads.{FromAnswers}
use Rattle.al_scope.specs.Places.{inner_parts, part_units}
use Rattle.al_decl.proofs.homograph.duplicates.Given as goal

abbrev pub invariant-loop-name : goal.invariant-loop-name
invariant-loop-name g l = record {
  asked : l.recorder.asked ≡ l.fn.recorder.asked;
  answered : FromAnswers l.fn.recorder.log l.recorder.log (λ t. l.found ≡ duplicates t l.scope l.view (take l.name-index l.names));
  asks : AsksOf (part_units (inner_parts l.scope.regions)) (by_name (names_of l.names)) l.fn.recorder.log l.recorder.log;
}
