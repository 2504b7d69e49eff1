use Rattle.std.proofs.Common.{◌≡◌, ◌++◌}
use Rattle.al_query.specs.Reads.{FromAnswers}
use Rattle.al_check_start.specs.Subunits.{stubs_out}
use Rattle.al_check_start.proofs.stub.add_stubs.Given as goal

-- the stubs so far, with those round them
abbrev pub invariant-loop-left : goal.invariant-loop-left
invariant-loop-left g l = record {
  asked : l.recorder.asked ≡ l.fn.recorder.asked;
  answered : FromAnswers l.fn.recorder.log l.recorder.log (λ t. l.parts.items ++ stubs_out t l.left l.stub l.next ≡ l.fn.parts.items ++ stubs_out t l.most l.fn.stub l.fn.next);
}

abbrev pub decreases-loop-left : goal.decreases-loop-left
decreases-loop-left g l = l.left
