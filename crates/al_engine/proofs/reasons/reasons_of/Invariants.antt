use Rattle.std.proofs.Common.{take}
use Rattle.al_query_store.specs.Keyed.{settled_at}
use Rattle.al_engine_refresh.specs.Moving.{now_table}
use Rattle.al_engine.specs.Reasons.{AreReasons}
use Rattle.al_engine.proofs.reasons.reasons_of.Given as goal

abbrev pub invariant-loop-unit : goal.invariant-loop-unit
invariant-loop-unit g l = AreReasons (now_table (g.P.Answers.table l.predefined) l.entries) l.sources (settled_at l.entries) (take l.unit-index l.units) l.reasons.items
