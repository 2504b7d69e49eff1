use Rattle.std.proofs.Common.{◌≡◌, drop}
use Rattle.std.specs.List.{list_all}
use Rattle.al_query.specs.Reads.{FromAnswers}
use Rattle.al_check_start.specs.Around.{opens_mentioned}
use Rattle.al_check_start.proofs.around.all_open_mentioned.Given as goal

-- those that were passed open what is mentioned
abbrev pub invariant-loop-unit : goal.invariant-loop-unit
invariant-loop-unit g l = record {
  asked : l.recorder.asked ≡ l.fn.recorder.asked;
  answered : FromAnswers l.fn.recorder.log l.recorder.log (λ t. list_all (opens_mentioned t l.packages) l.units ≡ list_all (opens_mentioned t l.packages) (drop l.unit-index l.units));
}
