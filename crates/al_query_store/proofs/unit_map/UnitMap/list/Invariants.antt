use Rattle.std.proofs.Common.{◌≡◌, ◌++◌, map}
use Rattle.al_query_store.proofs.unit_map.UnitMap.list.Given as goal

abbrev pub invariant-loop-unit : goal.invariant-loop-unit
invariant-loop-unit g l = map (λ e. (e.0.now, e.1.now)) l.list.items ++ l.unit-iterator ≡ l.self
