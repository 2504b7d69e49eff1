-- Subtypes by a mark and a constraint (ARM 3.2.2, 3.5).
use Rattle.std.specs.Prelude.{ℤ, int_lt, int_le, Bool, not, ◌&&◌, List, Option, Some, None, Result, Ok, Err, if◌then◌else◌}
use Rattle.std.specs.Option.{option_and_then, option_or}
use Rattle.al_base.specs.declared.place.Place.{Place}
use Rattle.al_base_fault.specs.declared.fault.Fault.{Fault}
use Rattle.al_base_fault.specs.Faults.{fault_at}
use Rattle.al_base_fault.specs.Judging.{next, map_ok}
use Rattle.al_base_fault.specs.declared.check_rule.CheckRule.TheVariants.{OutOfLimits, WrongKind}
use Rattle.al_view.specs.declared.types.Bounds.{Bounds}
use Rattle.al_view.specs.declared.types.Subtype.{Subtype}
use Rattle.al_view.specs.declared.types.TypeView.{TypeView}
use Rattle.al_view.specs.declared.view.SubtypeView.{SubtypeView}
use Rattle.al_view.specs.Types.{definition_bounds}
use Rattle.al_view_predefined.specs.StandardTypes.{type_of}
use Rattle.al_decl_judged.specs.declared.subtype_views.StaticRange.{StaticRange}
use Rattle.al_decl_judged.specs.TypeLists.{other_types}

-- a null range has no values (ARM 3.5(4))
abbrev pub is_null : Bounds → Bool
is_null range = int_lt range.high range.low

abbrev pub is_within : ℤ → Bounds → Bool
is_within value bounds = int_le bounds.low value && int_le value bounds.high

-- the bounds of a subtype: its own, or those of its type; none if that is not scalar
abbrev pub subtype_bounds : List TypeView → Subtype → Option Bounds
subtype_bounds types subtype = option_or subtype.bounds (option_and_then (λ of. definition_bounds of.definition) (type_of types subtype.base))

-- the bounds of a mark that is constrained, and so is scalar (ARM 3.2.2(11))
abbrev pub scalar_bounds : Place → Option Bounds → Result Bounds Fault
scalar_bounds mark (Some bounds) = Ok bounds
scalar_bounds mark None = Err (fault_at mark WrongKind)

-- a range that is null, or both of whose bounds lie in these (ARM 3.5(6)); else its first bound that lies outside is out of limits
abbrev pub fitted : StaticRange → Bounds → Result Bounds Fault
fitted range within =
    if is_null range.bounds then Ok range.bounds
    else if not (is_within range.bounds.low within) then Err (fault_at range.low OutOfLimits)
    else if not (is_within range.bounds.high within) then Err (fault_at range.high OutOfLimits)
    else Ok range.bounds

-- the mark's type with these bounds
abbrev pub with_bounds : SubtypeView → Option Bounds → SubtypeView
with_bounds mark bounds = record {
  subtype = record { base = mark.subtype.base; bounds = bounds };
  types = other_types mark.types;
  literals = mark.literals;
}

-- the subtype that a mark at that place denotes, with a constraint or without
abbrev pub subtype_of : SubtypeView → Place → Option StaticRange → Result SubtypeView Fault
subtype_of mark place None = Ok (with_bounds mark (subtype_bounds mark.types mark.subtype))
subtype_of mark place (Some range) =
    map_ok (λ bounds. with_bounds mark (Some bounds)) (next (scalar_bounds place (subtype_bounds mark.types mark.subtype)) (fitted range))
