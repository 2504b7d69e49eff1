-- What is missing in a partition: a main subprogram, a body, a subunit (ARM 10.2(2..7)).
use Rattle.std.specs.Prelude.{◌≡◌, ℕ, Bool, false, not, ◌&&◌, List, [], ◌∷◌, ◌++◌, Option, Some, None, fold, if◌then◌else◌}
use Rattle.std.specs.Option.{option_map_or}
use Rattle.std.specs.List.{Contains, flat_map}
use Rattle.std.specs.Ordering.{is_gt}
use Rattle.al_base.specs.Batch.{Key}
use Rattle.al_base.specs.Files.{name_cmp}
use Rattle.al_base.specs.declared.unit_key.UnitKind.TheVariants.{Decl, Body, Sub}
use Rattle.al_unit_graph.specs.Headers.{Library}
use Rattle.al_unit_graph.specs.Library.{unit_at, is_unit, is_kind, declaration_of}
use Rattle.al_unit_graph.specs.Needed.{Needed}

-- the unit with this name is a procedure without parameters (ARM 10.2(7))
abbrev pub is_main : Library → List ℕ → Bool
is_main lib main = option_map_or (λ x. option_map_or (λ h. h.is_parameterless_procedure) (unit_at lib x) false) (declaration_of lib main) false

-- a declaration that requires a body, and whose body is missing
abbrev pub lacks_body : Library → Key → Bool
lacks_body lib x = is_kind x.1 Decl && (option_map_or (λ h. h.needs_body) (unit_at lib x) false && not (is_unit lib (x.0, Body)))

-- its name, if it is such a declaration
abbrev pub missing_bodies : Library → Key → List (List ℕ)
missing_bodies lib x = if lacks_body lib x then x.0 ∷ [] else []

-- the subunit of a stub, by the name of the body in which the stub is, if the subunit is missing
abbrev pub missing_stub : Library → List ℕ → List ℕ → List (List ℕ)
missing_stub lib name stub = if is_unit lib (name ++ 46 ∷ stub, Sub) then [] else (name ++ 46 ∷ stub) ∷ []

-- the subunits of a unit's stubs that are missing
abbrev pub missing_stubs : Library → Key → List (List ℕ)
missing_stubs lib x = option_map_or (λ h. flat_map (missing_stub lib x.0) h.stubs) (unit_at lib x) []

-- the body of the needed declaration with this name is missing
abbrev pub LacksBody : Library → List ℕ → List ℕ → Type 0
LacksBody lib main name = (x : Key) × Needed lib main x × Contains (missing_bodies lib x) name

-- a needed unit has a stub whose subunit, with this name, is missing
abbrev pub LacksSubunit : Library → List ℕ → List ℕ → Type 0
LacksSubunit lib main name = (x : Key) × Needed lib main x × Contains (missing_stubs lib x) name

-- the first, by its bytes, of the names for which this holds
pub record IsLeastName (IsSo : List ℕ → Type 0) (name : List ℕ) : Type 0 where
  pub holds : IsSo name
  pub least : (other : List ℕ) → IsSo other → is_gt (name_cmp name other) ≡ false

-- the lesser of two names
abbrev pub lesser : Option (List ℕ) → List ℕ → Option (List ℕ)
lesser None name = Some name
lesser (Some found) name = if is_gt (name_cmp found name) then Some name else Some found

-- the least of some names and one that was found before
abbrev pub least_of : Option (List ℕ) → List (List ℕ) → Option (List ℕ)
least_of found names = fold lesser found names
