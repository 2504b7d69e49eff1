-- A place: the list of the regions round it, outermost first, and the library units that are mentioned there.
use Rattle.std.specs.Prelude.{map, flat_map, ℕ, suc, List, [], ◌∷◌, ◌++◌, Bool, false, ◌&&◌, ◌||◌, not, Some, None, codes, if◌then◌else◌}
use Rattle.std.specs.List.{list_any}
use Rattle.std.specs.Option.{option_map_or}
use Rattle.std.specs.Str.{bytes_eq}
use Rattle.std.specs.BTreeSet.{insert_key}
use Rattle.al_base.specs.Files.{name_cmp}
use Rattle.al_base.specs.declared.unit_key.UnitKind.TheVariants.{Decl}
use Rattle.al_base.specs.declared.unit_key.UnitKey.{UnitKey}
use Rattle.al_view.specs.declared.part.Part.TheVariants as part
use Rattle.al_view.specs.declared.symbol.Symbol.{Symbol}
use Rattle.al_view.specs.declared.types.TypeView.{TypeView}
use Rattle.al_view.specs.declared.view.ViewKind.{ViewKind}
use Rattle.al_view.specs.Interfaces.{views_of, with_view}
use Rattle.al_view.specs.Named.{Declarations}
use Rattle.al_view.specs.Symbols.{same_kind, same_part, same_symbol, same_unit}
use Rattle.al_scope.specs.declared.region.UnitPart.{UnitPart}
use Rattle.al_scope.specs.declared.region.Region.{Region}
use Rattle.al_scope.specs.declared.uses.PackageUse.{PackageUse}
use Rattle.al_scope.specs.UseClauses.{Uses, package_unit, with_package, with_type, with_type_view}

pub record Place : Type 0 where
  -- library units by their full names, each with its view
  pub mentioned : Declarations
  pub regions : List Region

-- the visible part of the package of that name
abbrev pub visible_part : List ℕ → UnitPart
visible_part name = record { unit = package_unit name; part = part.Visible }

abbrev pub is_visible_part : UnitPart → Bool
is_visible_part p = same_part p.part part.Visible && same_kind p.unit.kind Decl

-- the full name of a child of that name; a root unit is a child of Standard (ARM 10.1.1(1))
abbrev pub child_name : List ℕ → List ℕ → List ℕ
child_name parent name = if bytes_eq parent (codes "standard") then name else parent ++ 46 ∷ name

-- a library unit more, unless it is mentioned already
abbrev pub with_mentioned : List ℕ → ViewKind → Declarations → Declarations
with_mentioned unit v mentioned = first (views_of mentioned unit)
  where
    first : List ViewKind → Declarations
    first [] = with_view mentioned unit v
    first _ = mentioned

-- the units of some parts
abbrev pub part_units : List UnitPart → List UnitKey
part_units parts = map (λ p. p.unit) parts

-- the parts that regions continue
abbrev pub region_parts : List Region → List UnitPart
region_parts regions = flat_map (λ r. r.parts) regions

-- the use clauses that hold in the innermost region
abbrev pub uses_at : List Region → Uses
uses_at [] = []
uses_at (r ∷ []) = r.uses
uses_at (r ∷ q ∷ inner) = uses_at (q ∷ inner)

-- the visible part of a package of use clauses, if it is asked: if it is mentioned at one of them
abbrev pub used_part : List ℕ × PackageUse → List UnitPart
used_part u = if u.1.is_mentioned then visible_part u.0 ∷ [] else []

abbrev pub use_parts : Uses → List UnitPart
use_parts uses = flat_map used_part uses

-- the parts whose declarations may be visible at a place
abbrev pub place_parts : Place → List UnitPart
place_parts place = region_parts place.regions ++ use_parts (uses_at place.regions)

abbrev pub place_units : Place → List UnitKey
place_units place = part_units (place_parts place)

-- the parts that the innermost region continues
abbrev pub inner_parts : List Region → List UnitPart
inner_parts [] = []
inner_parts (r ∷ []) = r.parts
inner_parts (r ∷ q ∷ inner) = inner_parts (q ∷ inner)

-- what is declared so far in the innermost region
abbrev pub inner_declared : List Region → Declarations
inner_declared [] = []
inner_declared (r ∷ []) = r.declared
inner_declared (r ∷ q ∷ inner) = inner_declared (q ∷ inner)

-- a region that is entered: nothing is declared in it, and the use clauses round it hold in it too (ARM 8.4(6))
abbrev pub entered : List UnitPart → List Region → Region
entered parts regions = record { construct = None; parts = parts; declared = []; begun = []; uses = uses_at regions; private_types = [] }

-- an entered region of a package, a subprogram, a task, a protected object or an entry
abbrev pub entered_construct : Symbol → List UnitPart → List Region → Region
entered_construct s parts regions = record (entered parts regions) { construct = Some s }

-- a place whose innermost region is changed
abbrev pub in_last : (Region → Region) → List Region → List Region
in_last change [] = []
in_last change (r ∷ []) = change r ∷ []
in_last change (r ∷ q ∷ inner) = r ∷ in_last change (q ∷ inner)

-- a region with a declaration more (a name that was begun goes on shutting out until the region is left)
abbrev pub with_declared : List ℕ → ViewKind → Region → Region
with_declared name v r = record r { declared = with_view r.declared name v }

-- a region with a declaration begun
abbrev pub with_begun : List ℕ → Region → Region
with_begun name r = record r { begun = insert_key name_cmp r.begun name }

-- a region of whose units contexts name these private types
abbrev pub with_private_types : List (List ℕ) → Region → Region
with_private_types names r = record r { private_types = names }

-- a region with a use clause
abbrev pub with_uses : (Uses → Uses) → Region → Region
with_uses clause r = record r { uses = clause r.uses }

-- whether it is the region of that construct
abbrev pub is_region_of : Symbol → Region → Bool
is_region_of s r = option_map_or (same_symbol s) r.construct false

-- at which place the outermost region of a construct is, from 0; if there is none, how many regions there are
abbrev pub place_of : Symbol → List Region → ℕ
place_of s [] = 0
place_of s (r ∷ rs) = if is_region_of s r then 0 else suc (place_of s rs)

-- a part more for the outermost region of a construct
abbrev pub with_part : Symbol → UnitPart → List Region → List Region
with_part s p [] = []
with_part s p (r ∷ rs) = if is_region_of s r then record r { parts = r.parts ++ p ∷ [] } ∷ rs else r ∷ with_part s p rs

-- whether it is the region of a construct of the unit: of the unit itself, or of one in it
abbrev pub is_within : UnitKey → Region → Bool
is_within unit r = option_map_or (λ s. same_unit unit s.unit) r.construct false

-- whether the unit encloses the place
abbrev pub encloses : UnitKey → List Region → Bool
encloses unit regions = list_any (is_within unit) regions

-- a use clause in the innermost region that names the package (ARM 8.4(3)). It has no effect if the package encloses the
-- place: what it declares is directly visible there, or hidden.
abbrev pub with_use : UnitKey → List Region → List Region
with_use unit regions = if encloses unit regions then regions else in_last (with_uses (with_package unit.name)) regions

-- whether the type is declared round the place: by a body, or by a unit that encloses the place
abbrev pub is_declared_round : Symbol → List Region → Bool
is_declared_round s regions = not (same_kind s.unit.kind Decl) || encloses s.unit regions

-- a use type clause in the innermost region that names the type (ARM 8.4(4)). It has no effect if the type is declared round the
-- place: its operators are declared beside it.
abbrev pub with_use_type : Symbol → List Region → List Region
with_use_type s regions = if is_declared_round s regions then regions else in_last (with_uses (with_type s)) regions

-- a use type clause for a type whose package isn't mentioned there, with the types that its view has
abbrev pub with_use_view : Symbol → List TypeView → List Region → List Region
with_use_view s types regions = if is_declared_round s regions then regions else in_last (with_uses (with_type_view s types)) regions
