use Rattle.std.proofs.Common.{◌≡◌, ℕ, ◌<◌, true, get_or, map}
use Rattle.std.specs.Option.{is_some}
use Rattle.al_base.specs.Batch.{Key, key_of}
use Rattle.al_base.specs.declared.unit_key.UnitKey.{UnitKey}
use Rattle.al_query_store.specs.Units.{at_unit}
use Rattle.al_engine.specs.Kept.{unit_of}
use Rattle.al_engine.proofs.graph.add_bases.Given as goal

abbrev pub invariant-loop-base : goal.invariant-loop-base
invariant-loop-base l =
    ((u : UnitKey) → is_some (at_unit l.initial.bases u) ≡ true → is_some (at_unit l.bases u) ≡ true)
    × ((k : ℕ) → k < l.base-index → (d : Key) → get_or (map key_of l.base-items) k d ≡ d → is_some (at_unit l.bases (unit_of d)) ≡ true)
