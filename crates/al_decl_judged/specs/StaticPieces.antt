-- Expressions that must be static (ARM 4.9).
use Rattle.std.specs.Prelude.{Option, Some, None, Result, Ok, Err}
use Rattle.al_base.specs.declared.place.Place.{Place}
use Rattle.al_base_fault.specs.declared.check_rule.CheckRule.TheVariants.{NotStatic}
use Rattle.al_base_fault.specs.Faults.{fault_at}
use Rattle.al_base_fault.specs.Judging.{both, map_ok}
use Rattle.al_base_fault.specs.declared.fault.Fault.{Fault}
use Rattle.al_view.specs.declared.types.StaticValue.{StaticValue}
use Rattle.al_view_typed.specs.ExpressionTrees.{TypedTree, Labelled}
use Rattle.al_decl_judged.specs.declared.subtype_views.StaticRange.{StaticRange}

-- the value of an expression, if it is static
abbrev pub value_label : TypedTree → Option StaticValue
value_label (Labelled labels form) = labels.value

-- where it begins
abbrev pub place_label : TypedTree → Place
place_label (Labelled labels form) = labels.place

-- a value that is wanted at that place
abbrev pub wanted_at : Place → Option StaticValue → Result StaticValue Fault
wanted_at place (Some value) = Ok value
wanted_at place None = Err (fault_at place NotStatic)

-- an expression that must be static
abbrev pub static_of : TypedTree → Result StaticValue Fault
static_of t = wanted_at (place_label t) (value_label t)

-- a range whose bounds must be
abbrev pub static_range : TypedTree → TypedTree → Result StaticRange Fault
static_range low high =
    map_ok (λ (b : StaticValue × StaticValue). record { bounds = record { low = b.0.word; high = b.1.word }; low = place_label low; high = place_label high }) (both (static_of low) (static_of high))
