-- Expanded names: the prefix is a construct that encloses the place, or a package of the library (ARM 4.1.3(4, 13)).
use Rattle.std.specs.Prelude.{◌≡◌, ℕ, Bool, true, List, ◌∷◌, [], Option, Some, MatchOption, unwrap_or, if◌then◌else◌}
use Rattle.std.specs.List.{find, list_any}
use Rattle.std.specs.Str.{bytes_eq}
use Rattle.std.specs.Option.{option_map, option_map_or}
use Rattle.al_view.specs.declared.symbol.Symbol.{Symbol}
use Rattle.al_view.specs.declared.view.ViewKind.{ViewKind}
use Rattle.al_view.specs.Named.{Declarations}
use Rattle.al_view.specs.declared.part.Part.TheVariants.{Visible}
use Rattle.al_query.specs.declared.query.Query.{Query}
use Rattle.al_query.specs.declared.answer.AnswerKind.{AnswerKind}
use Rattle.al_scope.specs.declared.region.Region.{Region}
use Rattle.al_scope.specs.declared.region.UnitPart.{UnitPart}
use Rattle.al_base.specs.declared.unit_key.UnitKey.{UnitKey}
use Rattle.al_scope.specs.Places.{Place, is_region_of, is_within}
use Rattle.al_scope.specs.Visible.{declared_by, found_in}
use Rattle.al_scope.specs.VisibleSet.{Has}

-- the outermost region of that construct, if one is round the place
abbrev pub region_of : Symbol → List Region → Option Region
region_of s regions = find (is_region_of s) regions

-- what the construct has of a name so far, if it encloses the place
abbrev pub within : (Query → AnswerKind) → Declarations → List ℕ → Symbol → List Region → Option (List ViewKind)
within t m name s regions = option_map (λ r. (found_in t m name r).views) (region_of s regions)

-- some region round the place is that construct's
abbrev pub Encloses : Symbol → List Region → Type 0
Encloses s regions = (r : Region) × Has regions r × (r.construct ≡ Some s)

-- what is selected in a construct: if it doesn't enclose the place nothing can be, else it is what a region of it has
abbrev pub IsSelected : (Query → AnswerKind) → Declarations → List ℕ → Symbol → List Region → Option (List ViewKind) → Type 0
IsSelected t m name s regions selected =
    MatchOption selected (Encloses s regions → ⊥) (λ views. (r : Region) × Has regions r × (r.construct ≡ Some s) × ((found_in t m name r).views ≡ views))

-- the visible part of the unit with this symbol
abbrev pub part_of : Symbol → UnitPart
part_of s = record { unit = s.unit; part = Visible }

-- what a package's name selects: if it encloses the place what its region has, with what is in its private part and body so
-- far; else what its visible part declares
abbrev pub selected_at : (Query → AnswerKind) → List ℕ → Symbol → Place → List ViewKind
selected_at t name s place = unwrap_or (within t place.mentioned name s place.regions) (declared_by t place.mentioned name (part_of s))

-- the parts that are asked then
abbrev pub selected_parts : Symbol → Place → List UnitPart
selected_parts s place = option_map_or (λ r. r.parts) (region_of s place.regions) (part_of s ∷ [])

-- the parts that are asked if the prefix is a construct that is no package
abbrev pub within_parts : Symbol → Place → List UnitPart
within_parts s place = option_map_or (λ r. r.parts) (region_of s place.regions) []

-- the outermost region round the place that is a construct's of that unit: the package's, if the unit is a package
abbrev pub unit_region : UnitKey → List Region → Option Region
unit_region unit regions = find (is_within unit) regions

-- whether a private type of that name may be one of the region's: if it continues parts, their units say which private types they declare
abbrev pub tells : List ℕ → Region → Bool
tells name r = among r.parts
  where
    among : List UnitPart → Bool
    among [] = true
    among (p ∷ ps) = list_any (bytes_eq name) r.private_types

-- what the region has of a private type's name
abbrev pub told_in : (Query → AnswerKind) → Declarations → List ℕ → Region → List ViewKind
told_in t m name r = if tells name r then (found_in t m name r).views else []

-- what the unit's region has of a private type's name; nothing, if the unit doesn't enclose the place
abbrev pub within_unit : (Query → AnswerKind) → List ℕ → UnitKey → Place → List ViewKind
within_unit t name unit place = option_map_or (told_in t place.mentioned name) (unit_region unit place.regions) []

-- the parts that are asked then
abbrev pub unit_parts : UnitKey → Place → List UnitPart
unit_parts unit place = option_map_or (λ r. r.parts) (unit_region unit place.regions) []
