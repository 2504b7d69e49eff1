-- Which edited units the files have.
use Rattle.std.specs.Prelude.{◌≡◌, ℕ, true, false, List, [], Some, None, map}
use Rattle.std.specs.List.{Contains}
use Rattle.al_base.specs.Batch.{Finding}
use Rattle.al_unit_faults.specs.FilesSeen.{file_faults_model}
use Rattle.al_engine.specs.Texts.{may_differ}
use Rattle.al_engine.specs.declared.alike.Edited.{Edited}
use Rattle.al_base.specs.declared.unit_key.UnitKey.{UnitKey}
use Rattle.al_unit_graph.specs.Headers.{Header, Library, key_of_unit}
use Rattle.al_unit_graph.specs.Library.{unit_in}
use Rattle.al_query_outcome.specs.Equations.{unit_named}
use Rattle.al_query_store.specs.Units.{at_unit}
use Rattle.al_query.specs.Known.{has_unit}
use Rattle.std.specs.Prelude.{Option}
use Rattle.al_engine_refresh.specs.Stored.{Stored}
use Rattle.al_engine.specs.declared.graph.UnitGraph.{UnitGraph}
use Rattle.al_engine_refresh.specs.Builds.{text_of}
use Rattle.al_engine.specs.RecheckEdits.{IsForAnother, units_of}
use Rattle.al_engine.specs.declared.edited.EditedUnit.{EditedUnit}

-- this is the unit in the file
abbrev pub Holds : Library → List ℕ → UnitKey → Type 0
Holds lib file unit = (h : Header) × (unit_in lib file ≡ Some h) × (unit ≡ unit_named (key_of_unit h))

-- an edited unit: it has an entry for another source than its present one, and no unit depends on it directly unless it is marked
-- as a base
pub record IsEntered (lib : Library) (entries : UnitKey → Option Stored) (graph : UnitGraph) (e : EditedUnit) : Type 0 where
  pub edited : IsForAnother (entries e.unit) (text_of lib e.unit)
  pub base : e.is_base ≡ false → at_unit graph.bases e.unit ≡ None

-- the edited unit that is in this file
abbrev pub IsEdited : Library → (UnitKey → Option Stored) → UnitGraph → List ℕ → EditedUnit → Type 0
IsEdited lib entries graph file e = Holds lib file e.unit × IsEntered lib entries graph e

-- these are the edited units in these files
pub record AreEditedIn (lib : Library) (entries : UnitKey → Option Stored) (graph : UnitGraph) (files : List (List ℕ)) (edits : List EditedUnit) : Type 0 where
  pub holds : (file : List ℕ) → Contains files file → (h : Header) × (unit_in lib file ≡ Some h) × (has_unit (units_of edits) (unit_named (key_of_unit h)) ≡ true)
  pub each : (e : EditedUnit) → Contains edits e → IsEntered lib entries graph e

-- no file breaks a rule of the graph, and no error says that a unit wasn't reached
pub record HasReachedAll (graph : UnitGraph) (found : List Finding) : Type 0 where
  pub none : (f : List ℕ × List Finding) → Contains (map file_faults_model graph.faults.items) f → f.1 ≡ []
  pub reached : (f : Finding) → Contains found f → f.code ≡ 208 → ⊥

-- all errors are in the edited files
abbrev pub AreIn : Edited → List Finding → Type 0
AreIn edited found = (f : Finding) → Contains found f → may_differ edited f.file
