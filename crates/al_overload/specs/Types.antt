-- Types as interpretation sees them (ARM 3.2).
use Rattle.std.specs.Prelude.{List}
use Rattle.std.specs.Option.{option_map_or}
use Rattle.al_overload.specs.declared.types.Class.{Class}
use Rattle.al_overload.specs.declared.types.Class.TheVariants as class
use Rattle.al_overload.specs.declared.types.ValueType.{ValueType}
use Rattle.al_view_predefined.specs.StandardTypes.{type_of}
use Rattle.al_view.specs.declared.symbol.Symbol.{Symbol}
use Rattle.al_view.specs.declared.types.TypeDefinition.{TypeDefinition}
use Rattle.al_view.specs.declared.types.TypeDefinition.TheVariants as definitions
use Rattle.al_view.specs.declared.types.TypeView.{TypeView}

abbrev pub class_of : TypeDefinition → Class
class_of (definitions.Integer bounds) = class.Integer
class_of (definitions.Enumeration literals) = class.Enumeration
class_of (definitions.Array index component) = class.Other
class_of (definitions.Record components) = class.Other
class_of definitions.Time = class.Other
class_of definitions.Private = class.Other

abbrev pub class_defined : TypeView → Class
class_defined t = class_of t.definition

-- the type with this symbol, among these types and those that every unit has
abbrev pub value_type : List TypeView → Symbol → ValueType
value_type types symbol = record { symbol = symbol; class = option_map_or class_defined (type_of types symbol) class.Other }
