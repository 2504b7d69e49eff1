-- What the predefined package Standard declares (ARM A.1).
use Rattle.std.specs.Prelude.{ℕ, List, [], ◌∷◌, codes, Some, pos, negsuc}
use Rattle.al_view.specs.declared.symbol.Symbol.{Symbol}
use Rattle.al_view.specs.declared.types.Layout.TheVariants.{Scalar, Words}
use Rattle.al_view.specs.declared.types.TypeDefinition.{TypeDefinition}
use Rattle.al_view.specs.declared.types.TypeDefinition.TheVariants.{Integer, Enumeration, Private}
use Rattle.al_view.specs.declared.types.TypeView.{TypeView}
use Rattle.al_view.specs.declared.view.ViewKind.{ViewKind}
use Rattle.al_view.specs.declared.view.ViewKind.TheVariants.{OfType, OfSubtype, OfLiteral}
use Rattle.al_view.specs.Interfaces.{with_view}
use Rattle.al_view.specs.Named.{Declarations}
use Rattle.al_view_predefined.specs.Operators.{operators_of, logical, standard_symbol, with_operators}

-- a scalar type alone
abbrev pub scalar : Symbol → TypeDefinition → List TypeView
scalar t definition = record { symbol = t; definition = definition; layout = Scalar } ∷ []

-- the partial view of a private type, of whose values the words alone are known (ARM 7.3)
abbrev pub private_type : Symbol → ℕ → List TypeView
private_type t words = record { symbol = t; definition = Private; layout = Words words } ∷ []

abbrev pub boolean : Symbol
boolean = standard_symbol (codes "boolean")

abbrev pub boolean_definition : TypeDefinition
boolean_definition = Enumeration 2

abbrev pub boolean_literals : List (List ℕ)
boolean_literals = codes "false" ∷ codes "true" ∷ []

abbrev pub boolean_types : List TypeView
boolean_types = scalar boolean boolean_definition

abbrev pub integer : Symbol
integer = standard_symbol (codes "integer")

abbrev pub integer_definition : TypeDefinition
integer_definition = Integer (record { low = negsuc 2147483647; high = pos 2147483647 })

abbrev pub integer_types : List TypeView
integer_types = scalar integer integer_definition

-- a type of these types, the last of them, with the names of its literals
abbrev pub of_type : List TypeView → List (List ℕ) → ViewKind
of_type types literals = OfType (record { types = types; literals = literals })

-- a literal of a type
abbrev pub literal : Symbol → List TypeView → ℕ → ViewKind
literal t types position = OfLiteral (record { base = t; types = types; position = position })

-- a subtype of Integer from this bound on
abbrev pub integers_from : ℕ → ViewKind
integers_from low = OfSubtype (record { subtype = record { base = integer; bounds = Some (record { low = pos low; high = pos 2147483647 }) }; types = []; literals = [] })

-- type Boolean is (False, True), with its operators
abbrev pub with_boolean : Declarations → Declarations
with_boolean declared =
    let named = with_view declared (codes "boolean") (of_type boolean_types boolean_literals) in
    let first = with_view named (codes "false") (literal boolean boolean_types 0) in
    let both = with_view first (codes "true") (literal boolean boolean_types 1) in
    with_operators boolean boolean_types [] (with_operators boolean boolean_types [] both (operators_of boolean_definition)) logical

-- type Integer is range -2**31 .. 2**31 - 1, with its operators
abbrev pub with_integer : Declarations → Declarations
with_integer declared =
    with_operators integer integer_types [] (with_view declared (codes "integer") (of_type integer_types [])) (operators_of integer_definition)

-- subtype Natural is Integer range 0 .. Integer'Last; subtype Positive is Integer range 1 .. Integer'Last
abbrev pub with_subtypes : Declarations → Declarations
with_subtypes declared = with_view (with_view declared (codes "natural") (integers_from 0)) (codes "positive") (integers_from 1)

abbrev pub standard : Declarations
standard = with_subtypes (with_integer (with_boolean []))
