use Rattle.std.proofs.Common.{◌≡◌, ◌++◌, List}
use Rattle.al_query.specs.Reads.{FromAnswers}
use Rattle.al_scope.specs.declared.region.UnitPart.{UnitPart}
use Rattle.al_scope.specs.Asked.{AsksParts}
use Rattle.al_scope.specs.Places.{use_parts}
use Rattle.al_scope.specs.UseClauses.{uses_of}
use Rattle.al_scope.specs.Visible.{potential}
use Rattle.al_scope.proofs.uses.UseClauses.potential.Given as goal

-- each table that agrees with the log now gave what is there, and gives the rest
abbrev pub invariant-loop-package_name : goal.invariant-loop-package_name
invariant-loop-package_name g l = record {
  asks : (done : List UnitPart) × (done ++ use_parts (uses_of l.package_name-iterator) ≡ use_parts l.self) × AsksParts done l.name l.fn.recorder.log l.recorder.log;
  asked : l.recorder.asked ≡ l.fn.recorder.asked;
  answered : FromAnswers l.fn.recorder.log l.recorder.log (λ t. l.views ++ potential t l.mentioned l.name (uses_of l.package_name-iterator) ≡ potential t l.mentioned l.name l.self);
}
