use Rattle.std.proofs.Common.{◌≡◌, [], take}
use Rattle.std.specs.List.{flat_map}
use Rattle.al_query.specs.Reads.{FromAnswers}
use Rattle.al_scope.specs.Asked.{AsksParts}
use Rattle.al_scope.specs.Visible.{declared_by}
use Rattle.al_scope.proofs.questions.ask_each.Given as goal

-- each table that agrees with the log now gave what is there
abbrev pub invariant-loop-part : goal.invariant-loop-part
invariant-loop-part g l = record {
  asks : AsksParts (take l.part-index l.parts) l.name l.fn.recorder.log l.recorder.log;
  asked : l.recorder.asked ≡ l.fn.recorder.asked;
  answered : FromAnswers l.fn.recorder.log l.recorder.log (λ t. l.views ≡ flat_map (declared_by t l.mentioned l.name) (take l.part-index l.parts));
  none : l.part-index ≡ 0 → l.views ≡ [];
}
