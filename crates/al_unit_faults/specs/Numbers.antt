-- Numbers for the files, and the graph of their units over these.
use Rattle.std.specs.Prelude.{◌≡◌, ◌↔◌, ◌⊎◌, ◌<◌, ℕ, Bool, false, List, [], Option, Some, None, length, map, slice_index_or, if◌then◌else◌}
use Rattle.std.specs.Option.{is_some, option_map_or}
use Rattle.std.specs.List.{Contains, flat_map}
use Rattle.std.specs.Map.{lookup}
use Rattle.std.specs.BTreeMap.{is_at}
use Rattle.al_base.specs.Batch.{Key}
use Rattle.al_base.specs.Files.{name_cmp}
use Rattle.al_base.specs.FileNames.{file_name_of}
use Rattle.al_base_graph.specs.Graphs.{Step}
use Rattle.al_unit_graph.specs.Headers.{Header, Library, key_of_unit}
use Rattle.al_unit_graph.specs.Library.{unit_in, unit_at}
use Rattle.al_unit_graph.specs.Dependence.{listed, dependences}
use Rattle.al_unit_faults.specs.Cycles.{depends_on_itself}
use Rattle.al_unit_faults.specs.declared.cycles.Numbers.{Numbers}
use Rattle.al_unit_faults.specs.declared.cycles.Cycles.{Cycles}

-- each name with its number
abbrev pub numbers_model : Numbers → List (List ℕ × ℕ)
numbers_model numbers = map (λ e. (e.0.items, e.1)) numbers.places.entries

abbrev pub number_at : List (List ℕ × ℕ) → List ℕ → Option ℕ
number_at ns file = lookup (is_at (name_cmp file)) ns

-- the number of a name is that of a file with this name, and the first so many files have numbers
pub record IsNumbering (files : List (List ℕ)) (count : ℕ) (ns : List (List ℕ × ℕ)) : Type 0 where
  pub right : (file : List ℕ) (n : ℕ) → number_at ns file ≡ Some n → (n < length files) × (slice_index_or files n [] ≡ file)
  pub total : (i : ℕ) → i < count → (n : ℕ) × (number_at ns (slice_index_or files i []) ≡ Some n)

-- the number of a unit's file, if the library has the unit
abbrev pub node_of : Library → List (List ℕ × ℕ) → Key → Option ℕ
node_of lib ns key = if is_some (unit_at lib key) then number_at ns (file_name_of key) else None

-- the numbers of what the unit of a file depends on by itself
abbrev pub targets : Library → List (List ℕ × ℕ) → List ℕ → List ℕ
targets lib ns file = flat_map (λ key. listed (node_of lib ns key)) (option_map_or (dependences lib) (unit_in lib file) [])

-- a graph with steps from one node to these besides
pub record AddsFrom (old new : List (List ℕ)) (from : ℕ) (tos : List ℕ) : Type 0 where
  pub count : length new ≡ length old
  pub steps : (a b : ℕ) → Step new a b ↔ (Step old a b ⊎ ((a ≡ from) × Contains tos b))

-- the graph of the files, of which the first so many have their steps
pub record StepsBelow (lib : Library) (files : List (List ℕ)) (ns : List (List ℕ × ℕ)) (count : ℕ) (g : List (List ℕ)) : Type 0 where
  pub nodes : length g ≡ length files
  pub steps : (a b : ℕ) → Step g a b ↔ ((a < count) × Contains (targets lib ns (slice_index_or files a [])) b)

-- the flag at the number of a file
abbrev pub told : Cycles → List ℕ → Bool
told cycles file = option_map_or (λ n. slice_index_or cycles.flags.items n false) (number_at (numbers_model cycles.numbers) file) false

-- the flags say which units depend on themselves
abbrev pub TellsCycles : Library → Cycles → Type 0
TellsCycles lib cycles = (file : List ℕ) (h : Header) → unit_in lib file ≡ Some h → told cycles file ≡ depends_on_itself lib (key_of_unit h)
