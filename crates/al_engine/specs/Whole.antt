-- Which units are in the image of a partition.
use Rattle.std.specs.Prelude.{◌≡◌, ℕ, true, List, Some}
use Rattle.std.specs.List.{Contains}
use Rattle.al_base.specs.Batch.{Key}
use Rattle.al_unit_graph.specs.Headers.{Header, Library}
use Rattle.al_unit_graph.specs.Library.{is_unit, unit_at}
use Rattle.al_unit_graph.specs.Dependence.{direct}
use Rattle.al_unit_graph.specs.Needed.{Needed}
use Rattle.al_unit_faults.specs.Reached.{is_faultless}
use Rattle.al_unit_faults.specs.Read.{NameParentBodies}
use Rattle.al_bind.specs.Binding.{IsElaboration}
use Rattle.al_engine.specs.Placed.{ArePlaced}

-- no unit of the library breaks a rule of the graph, and all units on which units depend are there
pub record IsWhole (lib : Library) : Type 0 where
  pub named : NameParentBodies lib
  pub faultless : (k : Key) (h : Header) → unit_at lib k ≡ Some h → is_faultless lib k ≡ true
  pub direct_there : (k d : Key) (h : Header) → unit_at lib k ≡ Some h → Contains (direct lib k) d → is_unit lib d ≡ true

-- the units in the image are exactly the needed units that are in the library
pub record ArePlacedWhole (lib : Library) (main : List ℕ) (placed : List Key) : Type 0 where
  pub stand : (k : Key) → Needed lib main k → is_unit lib k ≡ true → Contains placed k
  pub needed : (k : Key) → Contains placed k → Needed lib main k

abbrev pub NeededArePlaced : Type 0
NeededArePlaced = (lib : Library) (main : List ℕ) (items placed : List Key) → IsWhole lib → IsElaboration lib main items → ArePlaced lib items placed → ArePlacedWhole lib main placed
