-- What the lists of faults hold, each rule by itself.
use Rattle.std.specs.Prelude.{◌≡◌, ◌↔◌, ℕ, List, Some}
use Rattle.std.specs.List.{Contains}
use Rattle.std.specs.List.Sorted.{IsStrictlySortedBy}
use Rattle.std.specs.Map.{keys_of}
use Rattle.al_base.specs.Batch.{Finding}
use Rattle.al_base.specs.Files.{name_cmp}
use Rattle.al_unit_graph.specs.Headers.{Header, Headed, Source, Library}
use Rattle.al_unit_graph.specs.Library.{source_at}
use Rattle.al_unit_graph.specs.Faults.{Misnames, Breaks}
use Rattle.al_unit_faults.specs.Orders.{finding_cmp}
use Rattle.al_unit_faults.specs.GraphFaults.{file_faults, graph_faults}

-- A file of the library is read as a unit, and its name breaks a rule; or its name breaks none, and the unit breaks another one.
pub data IsFaultOf (lib : Library) (file : List ℕ) : Finding → Type 0 where
  misnamed : {source : Source} {h : Header} {f : Finding} → source_at lib file ≡ Some source → source.contents ≡ Headed h → Misnames file h f → IsFaultOf lib file f
  broken : {source : Source} {h : Header} {f : Finding} → source_at lib file ≡ Some source → source.contents ≡ Headed h → ((g : Finding) → Misnames file h g → ⊥) → Breaks lib file h f → IsFaultOf lib file f

abbrev pub FileFaultsAreBroken : Type 0
FileFaultsAreBroken = (lib : Library) (file : List ℕ) (f : Finding) → Contains (file_faults lib file) f ↔ IsFaultOf lib file f

abbrev pub GraphFaultsAreBroken : Type 0
GraphFaultsAreBroken = (lib : Library) (f : Finding) → Contains (graph_faults lib) f ↔ IsFaultOf lib f.file f

-- if the names of the files ascend, so that each is there once
abbrev pub GraphFaultsAscend : Type 0
GraphFaultsAscend = (lib : Library) → IsStrictlySortedBy name_cmp (keys_of lib) → IsStrictlySortedBy finding_cmp (graph_faults lib)
