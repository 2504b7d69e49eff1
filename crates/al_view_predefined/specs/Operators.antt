-- The predefined operators of types.
use Rattle.std.specs.Prelude.{ℕ, ◌+◌, List, [], ◌∷◌, length, fold, codes, Some, None, pos}
use Rattle.al_base.specs.declared.unit_key.UnitKind.TheVariants.{Decl}
use Rattle.al_view.specs.declared.symbol.Symbol.{Symbol}
use Rattle.al_view.specs.declared.types.Subtype.{Subtype}
use Rattle.al_view.specs.declared.types.TypeDefinition.{TypeDefinition}
use Rattle.al_view.specs.declared.types.TypeDefinition.TheVariants.{Integer, Enumeration, Array, Record, Private}
use Rattle.al_view.specs.declared.types.TypeView.{TypeView}
use Rattle.al_view_predefined.specs.declared.operators.OperatorProfile.{OperatorProfile}
use Rattle.al_view_predefined.specs.declared.operators.OperatorProfile.TheVariants.{Unary, Binary, Power, Later, Relation}
use Rattle.al_view_predefined.specs.declared.operators.OperatorSymbol.{OperatorSymbol}
use Rattle.al_view_predefined.specs.declared.operators.OperatorSymbol.TheVariants as sign
use Rattle.al_view.specs.declared.view.CallKind.TheVariants as call
use Rattle.al_view.specs.declared.view.Mode.TheVariants.{In}
use Rattle.al_view.specs.declared.view.Parameter.{Parameter}
use Rattle.al_view.specs.declared.view.ViewKind.{ViewKind}
use Rattle.al_view.specs.declared.view.ViewKind.TheVariants.{OfSubprogram}
use Rattle.al_view.specs.Interfaces.{views_of, with_view}
use Rattle.al_view.specs.Named.{Declarations}

-- how an operator is written (ARM 4.5)
abbrev pub spelling : OperatorSymbol → List ℕ
spelling sign.And = codes "and"
spelling sign.Or = codes "or"
spelling sign.Xor = codes "xor"
spelling sign.Not = codes "not"
spelling sign.Equal = codes "="
spelling sign.NotEqual = codes "/="
spelling sign.Less = codes "<"
spelling sign.LessOrEqual = codes "<="
spelling sign.Greater = codes ">"
spelling sign.GreaterOrEqual = codes ">="
spelling sign.Plus = codes "+"
spelling sign.Minus = codes "-"
spelling sign.Times = codes "*"
spelling sign.Divide = codes "/"
spelling sign.Mod = codes "mod"
spelling sign.Rem = codes "rem"
spelling sign.Power = codes "**"
spelling sign.Abs = codes "abs"

-- operators of one profile
abbrev pub Group : Type 0
Group = OperatorProfile × List OperatorSymbol

-- the relations of types with an order (ARM 4.5.2)
abbrev pub relations : Group
relations = (Relation, sign.Equal ∷ sign.NotEqual ∷ sign.Less ∷ sign.LessOrEqual ∷ sign.Greater ∷ sign.GreaterOrEqual ∷ [])

-- the equality of arrays and records (ARM 4.5.2)
abbrev pub equality : Group
equality = (Relation, sign.Equal ∷ sign.NotEqual ∷ [])

-- the operators of Boolean, beside the relations (ARM 4.5.1(2), 4.5.6(3))
abbrev pub logical : List Group
logical = (Binary, sign.And ∷ sign.Or ∷ sign.Xor ∷ []) ∷ (Unary, sign.Not ∷ []) ∷ []

-- the operators of integer types, beside the relations (ARM 4.5.3 to 4.5.6)
abbrev pub arithmetic : List Group
arithmetic =
    (Unary, sign.Plus ∷ sign.Minus ∷ sign.Abs ∷ [])
    ∷ (Binary, sign.Plus ∷ sign.Minus ∷ sign.Times ∷ sign.Divide ∷ sign.Rem ∷ sign.Mod ∷ [])
    ∷ (Power, sign.Power ∷ []) ∷ []

-- the operators that a type declaration declares (ARM 3.2.3(6)), of Boolean but the logical ones
abbrev pub operators_of : TypeDefinition → List Group
operators_of (Integer bounds) = relations ∷ arithmetic
operators_of (Enumeration names) = relations ∷ []
operators_of (Array index component) = equality ∷ []
operators_of (Record components) = equality ∷ []
operators_of Private = equality ∷ []
operators_of _ = []

-- what a predefined package declares first under a name
abbrev pub predefined_symbol : List ℕ → List ℕ → Symbol
predefined_symbol package_name name = record { unit = record { name = package_name; kind = Decl }; name = name; number = 0 }

abbrev pub standard_symbol : List ℕ → Symbol
standard_symbol name = predefined_symbol (codes "standard") name

-- all values of a type
abbrev pub whole_type : Symbol → Subtype
whole_type t = record { base = t; bounds = None }

abbrev pub natural : Subtype
natural = record { base = standard_symbol (codes "integer"); bounds = Some (record { low = pos 0; high = pos 2147483647 }) }

abbrev pub operand : List ℕ → Subtype → Parameter
operand name subtype = record { name = name; mode = In; subtype = subtype }

-- a span of time (ARM D.8)
abbrev pub time_span : Symbol
time_span = predefined_symbol (codes "ada.real_time") (codes "time_span")

-- the parameters of an operator of the type
abbrev pub operands : Symbol → OperatorProfile → List Parameter
operands t Unary = operand (codes "right") (whole_type t) ∷ []
operands t Power = operand (codes "left") (whole_type t) ∷ operand (codes "right") natural ∷ []
operands t Later = operand (codes "left") (whole_type t) ∷ operand (codes "right") (whole_type time_span) ∷ []
operands t _ = operand (codes "left") (whole_type t) ∷ operand (codes "right") (whole_type t) ∷ []

-- the result of an operator
abbrev pub gives : Symbol → OperatorProfile → Subtype
gives t Relation = whole_type (standard_symbol (codes "boolean"))
gives t _ = whole_type t

-- an operator of the type as others see it, with its number among its homonyms
abbrev pub operator_view : Symbol → List TypeView → OperatorProfile → OperatorSymbol → ℕ → ViewKind
operator_view t types profile o number = OfSubprogram (record {
  symbol = record { unit = t.unit; name = spelling o; number = number };
  profile = record { parameters = operands t profile; result = Some (gives t profile) };
  types = types;
  call = call.Operator t;
  flag = None;
})

-- one more operator of the type; its number counts its homonyms there and in what the unit declares elsewhere
abbrev pub with_operator : Symbol → List TypeView → OperatorProfile → Declarations → Declarations → OperatorSymbol → Declarations
with_operator t types profile elsewhere declared o =
    with_view declared (spelling o) (operator_view t types profile o (length (views_of elsewhere (spelling o)) + length (views_of declared (spelling o))))

-- operators of the type after what is declared
abbrev pub with_group : Symbol → List TypeView → Declarations → Declarations → Group → Declarations
with_group t types elsewhere declared g = fold (with_operator t types g.0 elsewhere) declared g.1

abbrev pub with_operators : Symbol → List TypeView → Declarations → Declarations → List Group → Declarations
with_operators t types elsewhere declared groups = fold (with_group t types elsewhere) declared groups
