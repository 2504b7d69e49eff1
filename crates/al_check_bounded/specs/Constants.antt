-- The predefined units, and the allocator.
use Rattle.std.specs.Global.{Global}
use Rattle.al_overload.specs.Everywhere.{boolean_type, integer_type, time_type}
use Rattle.al_overload.specs.declared.everywhere.Predefined.{Predefined}
use Rattle.al_view_predefined.specs.StandardTypes.{root_integer, root_operators, standard_types}

abbrev pub predefined : Predefined
predefined = record {
  standard = standard_types;
  root = root_integer;
  operators = root_operators;
  types = record { boolean = boolean_type; integer = integer_type; time = time_type };
}

-- there is only one
abbrev pub the_memory : Global
the_memory = record { memory = record { seal = tt } }
