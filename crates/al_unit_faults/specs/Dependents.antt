-- Units that depend on a unit that isn't sound, or on one whose file is marked.
use Rattle.std.specs.Prelude.{◌≡◌, ◌↔◌, ◌<◌, ℕ, Bool, true, false, ◌||◌, List, [], slice_index_or}
use Rattle.std.specs.Option.{is_none, option_map_or}
use Rattle.std.specs.List.{Contains, list_any}
use Rattle.al_base.specs.Batch.{Key}
use Rattle.al_base.specs.FileNames.{file_name_of}
use Rattle.al_unit_graph.specs.Headers.{Library, key_of_unit}
use Rattle.al_unit_graph.specs.Library.{unit_in, unit_at}
use Rattle.al_unit_graph.specs.Dependence.{dependences}
use Rattle.al_unit_faults.specs.Cycles.{all_dependences}
use Rattle.al_unit_faults.specs.Numbers.{numbers_model, number_at, node_of}
use Rattle.al_unit_faults.specs.declared.dependents.Dependents.{Dependents}

-- the library has no such unit, or the unit's file is marked
abbrev pub is_unfit : Library → (List ℕ → Bool) → Key → Bool
is_unfit lib marked key = is_none (unit_at lib key) || marked (file_name_of key)

-- a unit depends on such a one, by way of others too
abbrev pub depends_on_unfit : Library → (List ℕ → Bool) → Key → Bool
depends_on_unfit lib marked key = list_any (is_unfit lib marked) (all_dependences lib key)

-- whether a unit is marked, by the flag at its file's number
abbrev pub is_flagged : Library → List (List ℕ × ℕ) → List Bool → Key → Bool
is_flagged lib ns flags key = option_map_or (λ n. slice_index_or flags n false) (node_of lib ns key) true

-- the unit of the file depends by itself on a flagged one
abbrev pub steps_to_flagged : Library → List (List ℕ × ℕ) → List Bool → List ℕ → Bool
steps_to_flagged lib ns flags file = list_any (is_flagged lib ns flags) (option_map_or (dependences lib) (unit_in lib file) [])

-- the goals among the first so many files
abbrev pub AreGoals : Library → List (List ℕ) → List (List ℕ × ℕ) → List Bool → ℕ → List ℕ → Type 0
AreGoals lib files ns flags count goals =
    (a : ℕ) → Contains goals a ↔ ((a < count) × (steps_to_flagged lib ns flags (slice_index_or files a []) ≡ true))

-- the flag at the number of a file
abbrev pub depends : Dependents → List ℕ → Bool
depends dependents file = option_map_or (λ n. slice_index_or dependents.flags.items n false) (number_at (numbers_model dependents.numbers) file) false

-- the unit of the file, if it holds one, depends on one that isn't sound or is marked
abbrev pub is_dependent : Library → (List ℕ → Bool) → List ℕ → Bool
is_dependent lib marked file = option_map_or (λ h. depends_on_unfit lib marked (key_of_unit h)) (unit_in lib file) false

-- the flags say of which files that is so
abbrev pub TellsDependents : Library → (List ℕ → Bool) → Dependents → Type 0
TellsDependents lib marked dependents = (file : List ℕ) → depends dependents file ≡ is_dependent lib marked file
