-- What the parts of declarations are at their places (ARM 3.2.2, 3.3.1, 3.3.2, 3.5.4, 3.6). Their names are looked up by a table of answers.
use Rattle.std.specs.Prelude.{List, [], Option, Some, None, Result}
use Rattle.al_base.specs.declared.unit_key.UnitKey.{UnitKey}
use Rattle.al_overload.specs.Parts.{nominal}
use Rattle.al_overload.specs.declared.everywhere.Predefined.{Predefined}
use Rattle.al_base_fault.specs.declared.fault.Fault.{Fault}
use Rattle.al_overload.specs.declared.context.Context.TheVariants as contexts
use Rattle.al_decl.specs.PartReadings.{PartReading}
use Rattle.al_query.specs.Reads.{Table}
use Rattle.al_scope.specs.Places.{Place}
use Rattle.al_decl_ada.specs.SubtypesAt.{index_at, indication_at}
use Rattle.al_tree_syntax.specs.ExpressionTrees.{ExpressionTree}
use Rattle.al_overload_values.specs.CompoundNames.{name_text}
use Rattle.al_overload_values.specs.TermsAt.{mark_at}
use Rattle.al_overload_nodes.specs.Leaves.{mark_type}
use Rattle.al_view_typed.specs.ExpressionTrees.{TypedTree}
use Rattle.al_overload_values.specs.Surroundings.{Surroundings}
use Rattle.al_overload_values.specs.ValuesAt.{checked_at, static_checked_at}
use Rattle.al_view.specs.declared.symbol.Symbol.{Symbol}
use Rattle.al_view.specs.declared.view.SubtypeView.{SubtypeView}

-- a place in a unit that mentions these packages, in the bodies of this protected object if any
abbrev pub surrounded : List UnitKey → Predefined → Option Symbol → Place → Surroundings
surrounded packages predefined own place = record { place = place; packages = packages; predefined = predefined; own = own }

-- the initial value of objects of a subtype, which it is wanted at; an aggregate is allowed there (ARM 3.3.1(4))
abbrev pub initial_at : Table → Surroundings → SubtypeView → ExpressionTree → Result TypedTree Fault
initial_at t s of x = checked_at t s (contexts.InitialValue (mark_type of)) (Some (nominal of.types of.subtype)) of.types x

-- the value of named numbers, which is static and of any integer type (ARM 3.3.2(2, 3))
abbrev pub number_at : Table → Surroundings → ExpressionTree → Result TypedTree Fault
number_at t s x = static_checked_at t s contexts.NumberValue [] x

-- a bound of an integer type, which is static and of any integer type (ARM 3.5.4(4, 5))
abbrev pub bound_at : Table → Surroundings → ExpressionTree → Result TypedTree Fault
bound_at t s x = static_checked_at t s contexts.IntegerBound [] x

-- the value of aspect Priority, which is static and of Integer (ARM D.1(15, 17))
abbrev pub priority_at : Table → Surroundings → ExpressionTree → Result TypedTree Fault
priority_at t s x = static_checked_at t s contexts.PriorityValue [] x

-- what is read at the places of a unit
unfoldable pub parts_read : Table → List UnitKey → Predefined → Option Symbol → UnitKey → PartReading
parts_read t packages predefined own unit = record {
  mark = λ place m. mark_at t place packages (name_text m);
  indication = λ place i. indication_at t (surrounded packages predefined own place) unit i;
  index = λ place r. index_at t (surrounded packages predefined own place) unit r;
  value = λ place of x. initial_at t (surrounded packages predefined own place) of x;
  number = λ place x. number_at t (surrounded packages predefined own place) x;
  bound = λ place x. bound_at t (surrounded packages predefined own place) x;
  priority = λ place x. priority_at t (surrounded packages predefined own place) x;
}
