-- What declarations of objects declare (ARM 3.3.1, 3.3.2, 6.1).
use Rattle.std.specs.Prelude.{Bool, true, false, not, ◌&&◌, List, [], Option, Some, None, if◌then◌else◌}
use Rattle.al_base.specs.declared.place.Place.{Place}
use Rattle.al_base_fault.specs.declared.fault.Fault.{Fault}
use Rattle.al_base_fault.specs.Faults.{fault_at}
use Rattle.al_base_fault.specs.declared.check_rule.CheckRule.TheVariants.{NoValue}
use Rattle.al_view.specs.declared.types.Bounds.{Bounds}
use Rattle.al_view.specs.declared.types.StaticValue.{StaticValue}
use Rattle.al_view.specs.declared.types.TypeView.{TypeView}
use Rattle.al_view.specs.declared.view.Mode.{Mode}
use Rattle.al_view.specs.declared.view.Mode.TheVariants.{In, InOut, Out}
use Rattle.al_view.specs.declared.view.ObjectPlace.{ObjectPlace}
use Rattle.al_view.specs.declared.view.SubtypeView.{SubtypeView}
use Rattle.al_view.specs.declared.view.ViewKind.{ViewKind}
use Rattle.al_view.specs.declared.view.ViewKind.TheVariants.{OfObject, OfNumber, OfSubtype}
use Rattle.al_view.specs.Types.{definition_bounds}
use Rattle.al_decl_judged.specs.TypeSubtypes.{is_within}

-- the value of a static constant (ARM 4.9(24)): a scalar constant whose initial value is static and lies in its subtype
abbrev pub constant_value : Bool → Option Bounds → Option StaticValue → Option StaticValue
constant_value true (Some bounds) (Some value) = if is_within value.word bounds then Some value else None
constant_value _ _ _ = None

abbrev pub object_view : SubtypeView → Bool → Option StaticValue → ObjectPlace → ViewKind
object_view of is_constant value place = OfObject (record {
  subtype = of.subtype;
  types = of.types;
  is_constant = is_constant;
  value = constant_value is_constant of.subtype.bounds value;
  place = place;
})

-- a formal parameter of mode in is a constant (ARM 3.3(17))
abbrev pub is_input : Mode → Bool
is_input In = true
is_input InOut = false
is_input Out = false

-- a formal parameter inside its body
abbrev pub formal_view : SubtypeView → Mode → ObjectPlace → ViewKind
formal_view of mode place = object_view of (is_input mode) None place

-- a named number
abbrev pub number_view : StaticValue → ViewKind
number_view value = OfNumber value

-- a subtype that is declared
abbrev pub subtype_view : SubtypeView → ViewKind
subtype_view subtype = OfSubtype subtype

-- all values of a type
abbrev pub whole_subtype : List TypeView → TypeView → SubtypeView
whole_subtype types of = record {
  subtype = record { base = of.symbol; bounds = definition_bounds of.definition };
  types = types;
  literals = [];
}

-- a constant has a value (ARM 3.3.1(6)); else there is a fault at its name
abbrev pub missing_value : Bool → Bool → Place → Option Fault
missing_value is_constant has_value name = if is_constant && not has_value then Some (fault_at name NoValue) else None
