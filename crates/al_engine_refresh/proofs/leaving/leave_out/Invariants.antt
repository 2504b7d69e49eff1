use Rattle.std.proofs.Common.{take, is_some}
use Rattle.al_query_store.specs.Units.{at_unit}
use Rattle.al_engine_refresh.specs.Moves.{IsLeft}
use Rattle.al_engine_refresh.specs.Moving.{IsCompared, MarksFollow}
use Rattle.al_engine_refresh.proofs.LeftLemmas.{LeftSoFar}
use Rattle.al_engine_refresh.proofs.leaving.leave_out.Given as goal

abbrev pub invariant-loop-unit : goal.invariant-loop-unit
invariant-loop-unit g l = record {
  so_far : LeftSoFar l.sources (λ u. is_some (at_unit l.set u)) l.fn.entries (take l.unit-index l.unit-items) l.entries;
  marks : MarksFollow (g.P.Answers.table l.predefined) l.fn.entries → MarksFollow (g.P.Answers.table l.predefined) l.entries;
  compared : IsCompared l.fn.entries l.fn.compared → IsCompared l.entries l.compared;
  left : IsLeft l.fn.entries l.entries;
}
