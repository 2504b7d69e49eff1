-- What is kept of a library's graph.
use Rattle.std.specs.Prelude.{◌≡◌, true, map}
use Rattle.std.specs.List.{Contains}
use Rattle.std.specs.Map.{keys_of}
use Rattle.std.specs.Option.{is_some}
use Rattle.al_base.specs.Batch.{Key, key_of}
use Rattle.al_base.specs.declared.unit_key.UnitKey.{UnitKey}
use Rattle.al_unit_graph.specs.Dependence.{direct}
use Rattle.al_unit_graph.specs.Headers.{Library}
use Rattle.al_unit_faults.specs.FilesSeen.{file_faults_model}
use Rattle.al_unit_faults.specs.GraphFaults.{file_faults}
use Rattle.al_query_store.specs.Units.{at_unit}
use Rattle.al_unit_faults.specs.Reached.{IsDependenceOrder, is_faultless}
use Rattle.al_engine.specs.declared.graph.UnitGraph.{UnitGraph}

abbrev pub unit_of : Key → UnitKey
unit_of k = record { name = k.0; kind = k.1 }

-- the rules that each file of the library breaks as a unit, an order of dependence of its units that break no rule, and the units
-- on which one of these depends directly
pub record IsGraphOf (lib : Library) (graph : UnitGraph) : Type 0 where
  pub faults : map file_faults_model graph.faults.items ≡ map (λ file. (file, file_faults lib file)) (keys_of lib)
  pub order : IsDependenceOrder lib (map key_of graph.order.items)
  pub bases : (key d : Key) → is_faultless lib key ≡ true → Contains (direct lib key) d → is_some (at_unit graph.bases (unit_of d)) ≡ true
