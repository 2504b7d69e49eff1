-- The types that every unit has.
use Rattle.std.specs.Prelude.{List, [], ◌∷◌, ◌++◌, codes, Option, pos, negsuc}
use Rattle.al_view.specs.declared.symbol.Symbol.{Symbol}
use Rattle.al_view.specs.declared.types.TypeDefinition.{TypeDefinition}
use Rattle.al_view.specs.declared.types.TypeDefinition.TheVariants.{Integer}
use Rattle.al_view.specs.declared.types.TypeView.{TypeView}
use Rattle.al_view.specs.Named.{Declarations}
use Rattle.al_view.specs.Types.{type_in}
use Rattle.al_view_predefined.specs.Operators.{operators_of, standard_symbol, with_operators}
use Rattle.al_view_predefined.specs.Standard.{boolean_types, integer_types, scalar}
use Rattle.std.specs.Option.{option_or}

-- the root type of all integer types (ARM 3.4.1(8)), which no source can name
abbrev pub root_integer : Symbol
root_integer = standard_symbol (codes "root_integer")

-- the root type's definition: it has the values of all words
abbrev pub root_definition : TypeDefinition
root_definition = Integer (record { low = negsuc 9223372036854775807; high = pos 9223372036854775807 })

abbrev pub root_types : List TypeView
root_types = scalar root_integer root_definition

-- the root type's operators, those of an integer type, which no part declares
abbrev pub root_operators : Declarations
root_operators = with_operators root_integer root_types [] [] (operators_of root_definition)

-- the types that views don't hold, as every unit has them
abbrev pub standard_types : List TypeView
standard_types = boolean_types ++ integer_types ++ root_types

-- the type with this symbol, among the types of a view or those that every unit has
abbrev pub type_of : List TypeView → Symbol → Option TypeView
type_of types symbol = option_or (type_in types symbol) (type_in standard_types symbol)
