-- The predefined types that contexts and constructs want (ARM A.1, D.8).
use Rattle.std.specs.Prelude.{codes}
use Rattle.al_overload.specs.declared.types.Class.TheVariants as class
use Rattle.al_overload.specs.declared.types.ValueType.{ValueType}
use Rattle.al_view_predefined.specs.Operators.{predefined_symbol, standard_symbol}

abbrev pub boolean_type : ValueType
boolean_type = record { symbol = standard_symbol (codes "boolean"); class = class.Enumeration }

abbrev pub integer_type : ValueType
integer_type = record { symbol = standard_symbol (codes "integer"); class = class.Integer }

abbrev pub time_type : ValueType
time_type = record { symbol = predefined_symbol (codes "ada.real_time") (codes "time"); class = class.Other }
