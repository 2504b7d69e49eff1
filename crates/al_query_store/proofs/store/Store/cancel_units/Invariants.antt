use Rattle.std.proofs.Common.{◌≡◌, take, if◌then◌else◌}
use Rattle.al_base.specs.declared.unit_key.UnitKey.{UnitKey}
use Rattle.al_query.specs.Known.{has_unit}
use Rattle.al_query_store.specs.Keyed.{cancelled_state, state}
use Rattle.al_query_store.proofs.store.Store.cancel_units.Given as goal

abbrev pub invariant-loop-unit : goal.invariant-loop-unit
invariant-loop-unit g l = (u : UnitKey) → state l.self u ≡ (if has_unit (take l.unit-index l.moved) u then cancelled_state (state l.fn.self u) else state l.fn.self u)
