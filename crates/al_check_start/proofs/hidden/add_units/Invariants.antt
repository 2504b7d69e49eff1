use Rattle.std.proofs.Common.{◌≡◌, ◌++◌, take}
use Rattle.std.specs.List.{flat_map}
use Rattle.al_query.specs.Reads.{FromAnswers}
use Rattle.al_check_start.specs.UnitsAt.{private_names_of}
use Rattle.al_check_start.proofs.hidden.add_units.Given as goal

abbrev pub invariant-loop-unit : goal.invariant-loop-unit
invariant-loop-unit g l = record {
  asked : l.recorder.asked ≡ l.fn.recorder.asked;
  answered : FromAnswers l.fn.recorder.log l.recorder.log (λ t. l.hidden ≡ l.fn.hidden ++ flat_map (private_names_of t) (take l.unit-index l.units));
}
