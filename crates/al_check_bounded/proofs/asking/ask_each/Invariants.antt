use Rattle.std.proofs.Common.{◌≡◌, ◌++◌, take}
use Rattle.std.specs.List.{flat_map}
use Rattle.al_query.specs.Reads.{FromAnswers}
use Rattle.al_check_bounded.specs.Questions.{answer_views}
use Rattle.al_check_bounded.proofs.asking.ask_each.Given as goal

abbrev pub invariant-loop-query : goal.invariant-loop-query
invariant-loop-query g l = record {
  asked : l.recorder.asked ≡ l.fn.recorder.asked;
  answered : FromAnswers l.fn.recorder.log l.recorder.log (λ t. l.found.items ≡ l.fn.found.items ++ flat_map (λ q. answer_views (t q)) (take l.query-index l.queries));
}
