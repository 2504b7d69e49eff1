-- Which units of a library a build can reach, and in which order they depend on one another (ARM 10.1.1(26)).
use Rattle.std.specs.Prelude.{◌≡◌, ◌↔◌, ℕ, Bool, true, false, not, ◌&&◌, List, [], ◌∷◌, ◌++◌, map}
use Rattle.std.specs.List.{Contains}
use Rattle.std.specs.Map.{keys_of}
use Rattle.al_base.specs.Batch.{Finding, Key}
use Rattle.al_base.specs.FileNames.{file_name_of}
use Rattle.al_unit_graph.specs.Headers.{Library}
use Rattle.al_unit_graph.specs.Library.{is_unit}
use Rattle.al_unit_graph.specs.Dependence.{direct, DependsOn}
use Rattle.al_unit_faults.specs.GraphFaults.{file_faults}

abbrev pub is_none_found : List Finding → Bool
is_none_found [] = true
is_none_found (f ∷ fs) = false

-- the library has the unit, and it breaks no rule of the graph
unfoldable pub is_faultless : Library → Key → Bool
is_faultless lib key = is_unit lib key && is_none_found (file_faults lib (file_name_of key))

-- it breaks no rule, and no unit on which it depends does: such a unit is reached unless a check finds a fault in one of those
pub record IsReachable (lib : Library) (key : Key) : Type 0 where
  pub faultless : is_faultless lib key ≡ true
  pub rests : (d : Key) → DependsOn lib key d → is_faultless lib d ≡ true

-- all units that break no rule, each once, and after all of them on which it depends by itself
pub record IsDependenceOrder (lib : Library) (order : List Key) : Type 0 where
  pub all : (key : Key) → Contains order key ↔ (is_faultless lib key ≡ true)
  pub once : (before rest : List Key) (key : Key) → order ≡ before ++ key ∷ rest → Contains before key → ⊥
  pub after : (before rest : List Key) (key d : Key) → order ≡ before ++ key ∷ rest → Contains (direct lib key) d → is_faultless lib d ≡ true → Contains before d

abbrev pub has_fault : List ℕ × List Finding → Bool
has_fault faults = not (is_none_found faults.1)

-- each file of the library with what is wrong with it as a unit
abbrev pub AreFaultsOf : Library → List (List ℕ × List Finding) → Type 0
AreFaultsOf lib faults = faults ≡ map (λ file. (file, file_faults lib file)) (keys_of lib)
