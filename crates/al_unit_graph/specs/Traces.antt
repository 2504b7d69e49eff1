-- Which units are obsolete since the last build (ARM 10.1.4(5, 7)).
use Rattle.std.specs.Prelude.{Bool, true, false, not, ◌||◌, nat_lt, length, bytes_eq, ◌≡◌, ◌≢◌, ◌⊎◌, ◌↔◌, ℕ, List, [], ◌∷◌, ◌++◌, Option, Some, None, if◌then◌else◌}
use Rattle.std.specs.Bool.{Decides}
use Rattle.std.specs.Option.{option_map, option_map_or}
use Rattle.std.specs.List.{Contains, flat_map}
use Rattle.al_base.specs.Batch.{Key}
use Rattle.al_base.specs.FileNames.{file_name_of}
use Rattle.al_base.specs.declared.unit_key.UnitKind.TheVariants.{Decl, Body}
use Rattle.al_unit_graph.specs.Headers.{Mention, Header, Library, is_library_body}
use Rattle.al_unit_graph.specs.Names.{lineage, parent_of, is_without_file}
use Rattle.al_unit_graph.specs.Library.{source_at, is_there, unit_in, unit_at}

abbrev pub text_at : Library → List ℕ → Option (List ℕ)
text_at lib file = option_map (λ source. source.text) (source_at lib file)

-- no file declares the unit; or its name has more than 251 bytes, and a file's name, which has four more, not more than 255
abbrev pub has_no_file : List ℕ → Bool
has_no_file name = is_without_file name || nat_lt 251 (length name)

-- the files in which the declaration of a unit is looked for
abbrev pub declaration_files : Library → List ℕ → List (List ℕ)
declaration_files lib name =
    if has_no_file name then []
    else if is_there lib (file_name_of (name, Decl)) then file_name_of (name, Decl) ∷ []
    else file_name_of (name, Decl) ∷ file_name_of (name, Body) ∷ []

-- the file in which a parent body is looked for
abbrev pub body_files : List ℕ → List (List ℕ)
body_files name = if has_no_file name then [] else file_name_of (name, Body) ∷ []

-- the files of its declaration, if it is a body
abbrev pub own_files : Library → Header → List (List ℕ)
own_files lib h = if is_library_body h.form then declaration_files lib h.name else []

-- a subunit, which has no declaration of its own, asks for its parent body, other units ask for their parent's declaration and
-- their own
abbrev pub parent_files : Library → Header → Option Mention → List (List ℕ)
parent_files lib h None = option_map_or (declaration_files lib) (parent_of h.name) [] ++ own_files lib h
parent_files lib h (Some parent) = body_files parent.name

abbrev pub mention_files : Library → Mention → List (List ℕ)
mention_files lib m = flat_map (declaration_files lib) (lineage m.name)

-- the files that a unit asks for, which may not be there
unfoldable pub wanted_files : Library → Header → List (List ℕ)
wanted_files lib h = parent_files lib h h.parent_body ++ flat_map (mention_files lib) h.mentions

-- the least set of files that holds the first one and what the units in it ask for
pub data Meets (lib : Library) (first : List ℕ) : List ℕ → Type 0 where
  itself : Meets lib first first
  wanted : {file next : List ℕ} {h : Header} → Meets lib first file → unit_in lib file ≡ Some h → Contains (wanted_files lib h) next → Meets lib first next

-- The trace of a file: what it meets, each with its source, or with that it isn't there.
abbrev pub InTrace : Library → List ℕ → List ℕ × Option (List ℕ) → Type 0
InTrace lib first pair = Meets lib first pair.0 × (text_at lib pair.0 ≡ pair.1)

abbrev pub HasSameTrace : Library → Library → List ℕ → Type 0
HasSameTrace old new file = (pair : List ℕ × Option (List ℕ)) → InTrace old file pair ↔ InTrace new file pair

-- A unit of the library is obsolete since an older one in which these files had a diagnostic: it wasn't sound there or had a
-- diagnostic, or its trace was another.
pub record IsObsolete (old : Library) (faulty : List (List ℕ)) (new : Library) (key : Key) : Type 0 where
  pub unit : Header
  pub is_unit : unit_at new key ≡ Some unit
  pub differs : (unit_at old key ≡ None) ⊎ (Contains faulty (file_name_of key) ⊎ (HasSameTrace old new (file_name_of key) → ⊥))

-- a file that is met has another source, or is there in one library alone
abbrev pub IsTouched : Library → Library → List ℕ → Type 0
IsTouched old new first = (file : List ℕ) × Meets new first file × (text_at old file ≢ text_at new file)

-- what the files are read as depends only on their sources
abbrev pub AreReadAlike : Library → Library → Type 0
AreReadAlike old new = (file : List ℕ) → text_at old file ≡ text_at new file → source_at old file ≡ source_at new file

-- If no file that is met in the one library differs, the traces are the same, so it is enough to go through one library.
abbrev pub TracesAreTouched : Type 0
TracesAreTouched = (old new : Library) (first : List ℕ) → AreReadAlike old new → HasSameTrace old new first ↔ (IsTouched old new first → ⊥)

-- the files that the unit of a file asks for; none if it holds no unit
abbrev pub wants : Library → List ℕ → List (List ℕ)
wants lib file = option_map_or (wanted_files lib) (unit_in lib file) []

abbrev pub is_same_text : Option (List ℕ) → Option (List ℕ) → Bool
is_same_text None None = true
is_same_text None (Some b) = false
is_same_text (Some a) None = false
is_same_text (Some a) (Some b) = bytes_eq a b

-- a file has another source in one of two libraries, or is there in one alone
abbrev pub is_changed : Library → Library → List ℕ → Bool
is_changed old new file = not (is_same_text (text_at old file) (text_at new file))

-- an answer says whether the unit is obsolete, if both libraries read equal sources alike
abbrev pub TellsObsolete : Library → List (List ℕ) → Library → Key → Bool → Type 0
TellsObsolete old faulty new key answer = AreReadAlike old new → Decides answer (IsObsolete old faulty new key)
