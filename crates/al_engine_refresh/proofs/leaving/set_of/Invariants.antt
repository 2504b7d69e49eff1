use Rattle.std.proofs.Common.{◌≡◌, take, is_some}
use Rattle.al_base.specs.declared.unit_key.UnitKey.{UnitKey}
use Rattle.al_query.specs.Known.{has_unit}
use Rattle.al_query_store.specs.Units.{at_unit}
use Rattle.al_engine_refresh.proofs.leaving.set_of.Given as goal

abbrev pub invariant-loop-unit : goal.invariant-loop-unit
invariant-loop-unit l = (u : UnitKey) → is_some (at_unit l.set u) ≡ has_unit (take l.unit-index l.units) u
