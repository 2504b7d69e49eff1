-- Units by their places in the order of keys, and the graph of their dependences over these places.
use Rattle.std.specs.Prelude.{◌≡◌, ◌↔◌, ◌⊎◌, ℕ, ◌<◌, List, [], ◌∷◌, ◌++◌, length, slice_index_or, if◌then◌else◌}
use Rattle.std.specs.Option.{option_map}
use Rattle.std.specs.List.{Contains}
use Rattle.al_base.specs.Batch.{Finding, Key}
use Rattle.al_base.specs.declared.unit_key.UnitKind.TheVariants.{Decl}
use Rattle.al_base_graph.specs.Graphs.{Step}
use Rattle.al_unit_graph.specs.Headers.{Library, key_of_unit}
use Rattle.al_unit_graph.specs.Library.{unit_in}
use Rattle.al_unit_graph.specs.Dependence.{listed, direct}
use Rattle.al_unit_faults.specs.Dependents.{depends}
use Rattle.al_unit_faults.specs.declared.dependents.Dependents.{Dependents}
use Rattle.al_unit_faults.specs.Reached.{is_none_found}

-- the unit of a file, if nothing is wrong with it
abbrev pub faultless_in : Library → List ℕ × List Finding → List Key
faultless_in lib faults = if is_none_found faults.1 then listed (option_map key_of_unit (unit_in lib faults.0)) else []

-- the unit of a file, if nothing is wrong with it and it depends on no faulty unit
abbrev pub reachable_in : Library → Dependents → List ℕ × List Finding → List Key
reachable_in lib dependents faults = if depends dependents faults.0 then [] else faultless_in lib faults

-- the key at a place below the length
abbrev pub key_at : List Key → ℕ → Key
key_at keys i = slice_index_or keys i ([], Decl)

-- the key is at this place
abbrev pub IsAt : List Key → Key → ℕ → Type 0
IsAt keys key i = (i < length keys) × (slice_index_or keys i key ≡ key)

-- a graph with steps from one place to those of these keys besides
pub record AddsFrom (old new : List (List ℕ)) (from : ℕ) (units keys : List Key) : Type 0 where
  pub count : length new ≡ length old
  pub steps : (a b : ℕ) → Step new a b ↔ (Step old a b ⊎ ((a ≡ from) × (b < length units) × Contains keys (key_at units b)))

-- a step leads from each of the first so many units to those among the units on which it depends by itself
pub record StepsBelow (lib : Library) (units : List Key) (count : ℕ) (g : List (List ℕ)) : Type 0 where
  pub nodes : length g ≡ length units
  pub steps : (a b : ℕ) → Step g a b ↔ ((a < count) × (b < length units) × Contains (direct lib (key_at units a)) (key_at units b))
