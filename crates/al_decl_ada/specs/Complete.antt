-- Marks that want a type with its full declaration (ARM 3.11.1(8), 7.3(5), 13.14): of objects, components, subtypes and indexes.
use Rattle.std.specs.Prelude.{Bool, ◌&&◌, false, Result, Ok, Err, if◌then◌else◌}
use Rattle.std.specs.Option.{option_map_or}
use Rattle.al_base.specs.declared.place.Place.{Place}
use Rattle.al_base_fault.specs.declared.check_rule.CheckRule.TheVariants.{NotComplete}
use Rattle.al_base.specs.declared.unit_key.UnitKey.{UnitKey}
use Rattle.al_base_fault.specs.Faults.{fault_at}
use Rattle.al_base_fault.specs.Judging.{next}
use Rattle.al_base_fault.specs.declared.fault.Fault.{Fault}
use Rattle.al_scope.specs.PartialViews.{is_private}
use Rattle.al_view.specs.Symbols.{same_unit}
use Rattle.al_view.specs.Types.{type_in}
use Rattle.al_view.specs.declared.types.TypeView.{TypeView}
use Rattle.al_view.specs.declared.view.SubtypeView.{SubtypeView}

-- a private type of the unit itself of which only its partial view is seen yet
abbrev pub is_incomplete : UnitKey → SubtypeView → Bool
is_incomplete unit of =
    same_unit unit of.subtype.base.unit && option_map_or (λ (t : TypeView). is_private t.definition) (type_in of.types of.subtype.base) false

abbrev pub complete : UnitKey → Place → SubtypeView → Result SubtypeView Fault
complete unit place of = if is_incomplete unit of then Err (fault_at place NotComplete) else Ok of

-- a mark at that place in a unit
abbrev pub completed : UnitKey → Place → Result SubtypeView Fault → Result SubtypeView Fault
completed unit place mark = next mark (complete unit place)
