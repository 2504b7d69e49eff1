-- The aggregates of a type (ARM 4.3.1, 4.3.3).
use Rattle.std.specs.Prelude.{ℕ, suc, ◌-◌, ◌-ℤ◌, int_le, unsigned_abs, Bool, false, ◌&&◌, ◌==◌, List, [], ◌∷◌, map, replicate, Option, Some, None, if◌then◌else◌}
use Rattle.std.specs.Option.{option_and_then, option_map_or, option_or}
use Rattle.al_overload.specs.declared.term.Candidate.{Candidate}
use Rattle.al_overload.specs.declared.types.Given.{Given}
use Rattle.al_overload.specs.declared.types.Given.TheVariants as g
use Rattle.al_overload.specs.declared.types.Expected.{Expected}
use Rattle.al_overload.specs.declared.types.Expected.TheVariants as w
use Rattle.al_overload.specs.Types.{value_type}
use Rattle.al_overload.specs.Terms.{TermsTree, TermsTree as terms}
use Rattle.al_view.specs.Types.{definition_bounds}
use Rattle.al_view.specs.declared.types.Bounds.{Bounds}
use Rattle.al_view.specs.declared.types.Component.{Component}
use Rattle.al_view.specs.declared.types.Subtype.{Subtype}
use Rattle.al_view.specs.declared.types.TypeDefinition.{TypeDefinition}
use Rattle.al_view.specs.declared.types.TypeDefinition.TheVariants as definitions
use Rattle.al_view.specs.declared.types.TypeView.{TypeView}
use Rattle.al_overload.specs.Parts.{definition_of}
use Rattle.al_overload.specs.declared.part.Nominal.{Nominal}

-- a value of this subtype's type is wanted, or given
abbrev pub value_wanted : List TypeView → Subtype → Expected
value_wanted types subtype = w.Value (value_type types subtype.base)

abbrev pub value_given : List TypeView → Subtype → Given
value_given types subtype = g.Value (value_type types subtype.base)

-- what wants these operands and gives this
abbrev pub operation : List Expected → Given → Candidate
operation operands given = record { operands = operands; given = given; is_root = false }

-- the values of an index; if it has no bounds of its own, those of its type
abbrev pub bounds_of : List TypeView → Subtype → Option Bounds
bounds_of types index = option_or index.bounds (option_and_then definition_bounds (definition_of types index))

-- So many values are from the low bound to the high one. (A positional aggregate has two values at least.)
abbrev pub has_count : ℕ → Bounds → Bool
has_count n bounds = int_le bounds.low bounds.high && (unsigned_abs (bounds.high -ℤ bounds.low) == n - 1)

-- an array with this index has so many components
abbrev pub has_components : List TypeView → ℕ → Subtype → Bool
has_components types n index = option_map_or (has_count n) (bounds_of types index) false

abbrev pub component_wanted : List TypeView → Component → Expected
component_wanted types component = value_wanted types component.subtype

-- a value for each component, of an array as many as its index has values
abbrev pub positional_in : Nominal → ℕ → TypeDefinition → Option Candidate
positional_in of n (definitions.Array index component) =
    if has_components of.types n index then Some (operation (replicate n (value_wanted of.types component)) (value_given of.types of.subtype)) else None
positional_in of n (definitions.Record components) = Some (operation (map (component_wanted of.types) components) (value_given of.types of.subtype))
positional_in of n _ = None

-- one value for all components of an array
abbrev pub others_in : Nominal → TypeDefinition → Option Candidate
others_in of (definitions.Array index component) = Some (operation (value_wanted of.types component ∷ []) (value_given of.types of.subtype))
others_in of _ = None

-- the aggregate of so many values, or with `others`, that is of this type
abbrev pub positional : ℕ → Nominal → Option Candidate
positional n of = option_and_then (positional_in of n) (definition_of of.types of.subtype)

abbrev pub others : Nominal → Option Candidate
others of = option_and_then (others_in of) (definition_of of.types of.subtype)

abbrev pub how_many : TermsTree → ℕ
how_many terms.NoTerm = 0
how_many (terms.MoreTerms x xs) = suc (how_many xs)
