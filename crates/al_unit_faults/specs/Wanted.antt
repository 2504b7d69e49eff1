-- What the list of obsolete units is made from: files with numbers, and a flag for each file.
use Rattle.std.specs.Prelude.{◌≡◌, ℕ, ◌<◌, ◌≤◌, Bool, false, not, ◌||◌, List, [], ◌∷◌, ◌++◌, length, slice_index_or, Vec, if◌then◌else◌}
use Rattle.std.specs.Bool.{Decides}
use Rattle.std.specs.Option.{is_some, option_map_or}
use Rattle.std.specs.List.{Contains, filter}
use Rattle.std.specs.Str.{bytes_eq}
use Rattle.al_base.specs.Batch.{Key}
use Rattle.al_base_graph.specs.Closing.{is_among}
use Rattle.al_unit_graph.specs.Headers.{Library, key_of_unit}
use Rattle.al_unit_graph.specs.Library.{unit_in, unit_at}
use Rattle.al_unit_graph.specs.Dependence.{listed}
use Rattle.al_unit_graph.specs.Traces.{wants, IsTouched, AreReadAlike}
use Rattle.al_unit_faults.specs.Units.{unit_of_file}
use Rattle.al_unit_faults.specs.Obsolete.{is_obsolete, obsolete_of}

-- the name is at this place
abbrev pub IsAt : List (List ℕ) → ℕ → List ℕ → Type 0
IsAt names place name = (place < length names) × (slice_index_or names place [] ≡ name)

-- each number is the place of its name
abbrev pub AreNumbered : {Y : Type 0} → List (List ℕ) → List (Vec ℕ Y × ℕ) → Type 0
AreNumbered {Y = Y} names entries = (e : Vec ℕ Y × ℕ) → Contains entries e → IsAt names e.1 e.0.items

-- the list goes on as a longer one
abbrev pub GoesOn : List (List ℕ) → List (List ℕ) → Type 0
GoesOn old new = (rest : List (List ℕ)) × (new ≡ old ++ rest)

abbrev pub StepsWithin : List (ℕ × ℕ) → ℕ → Type 0
StepsWithin steps count = (s : ℕ × ℕ) → Contains steps s → (s.0 < count) × (s.1 < count)

-- each step leads from a file to one that its unit asks for, and from each of the first files one leads to all that its unit asks
-- for
pub record IsWanted (lib : Library) (names : List (List ℕ)) (steps : List (ℕ × ℕ)) (count : ℕ) : Type 0 where
  pub within : StepsWithin steps (length names)
  pub leads : (s : ℕ × ℕ) → Contains steps s → Contains (wants lib (slice_index_or names s.0 [])) (slice_index_or names s.1 [])
  pub led : (a : ℕ) (name : List ℕ) → a < count → a < length names → Contains (wants lib (slice_index_or names a [])) name → (b : ℕ) × IsAt names b name × Contains steps (a, b)

-- the steps are of the first files, and one step leads from the next file to each of these
pub record IsWantedTo (lib : Library) (names : List (List ℕ)) (steps : List (ℕ × ℕ)) (count : ℕ) (wanted : List (List ℕ)) : Type 0 where
  pub before : IsWanted lib names steps count
  pub led : (name : List ℕ) → Contains wanted name → (b : ℕ) × IsAt names b name × Contains steps (count, b)

-- the flags of the files, which come first, say whether a file that they meet is changed
abbrev pub AreTouched : Library → Library → List (List ℕ) → List Bool → Type 0
AreTouched old new files flags =
    (length files ≤ length flags) × ((a : ℕ) → a < length files → Decides (slice_index_or flags a false) (IsTouched old new (slice_index_or files a [])))

-- the unit of a file, if it is obsolete; a flag says whether a file that it meets is changed
abbrev pub obsolete_by : Library → List (List ℕ) → Library → List ℕ → Bool → List Key
obsolete_by old faulty new file is_touched =
    option_map_or (λ h. if not (is_some (unit_at old (key_of_unit h))) || (is_among bytes_eq file faulty || is_touched) then key_of_unit h ∷ [] else []) (unit_in new file) []

-- the unit of a file, if it is obsolete
abbrev pub obsolete_in : Library → List (List ℕ) → Library → List ℕ → List Key
obsolete_in old faulty new file = filter (is_obsolete old faulty new) (listed (unit_of_file new file).1)

-- the keys are the list of the obsolete units, if both libraries read equal sources alike
abbrev pub ListsObsolete : Library → List (List ℕ) → Library → List Key → Type 0
ListsObsolete old faulty new keys = AreReadAlike old new → keys ≡ obsolete_of old faulty new
