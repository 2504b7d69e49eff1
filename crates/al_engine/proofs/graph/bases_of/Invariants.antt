use Rattle.std.proofs.Common.{◌≡◌, ℕ, ◌<◌, true, get_or, map}
use Rattle.std.specs.List.{Contains}
use Rattle.std.specs.Option.{is_some}
use Rattle.al_base.specs.Batch.{Key, key_of}
use Rattle.al_unit_graph.specs.Dependence.{direct}
use Rattle.al_query_store.specs.Units.{at_unit}
use Rattle.al_engine.specs.Kept.{unit_of}
use Rattle.al_engine.proofs.graph.bases_of.Given as goal

abbrev pub invariant-loop-unit : goal.invariant-loop-unit
invariant-loop-unit l = (k : ℕ) → k < l.unit-index → (w : Key) → get_or (map key_of l.units) k w ≡ w → (d : Key) → Contains (direct l.sources w) d → is_some (at_unit l.bases (unit_of d)) ≡ true
