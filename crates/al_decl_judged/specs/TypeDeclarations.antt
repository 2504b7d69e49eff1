-- What the declaration of a type declares, in order (ARM 3.2.1(9), 3.5.1(3), 3.2.3(6)).
use Rattle.std.specs.Prelude.{ℕ, ◌+◌, List, [], ◌∷◌, ◌++◌, map, fold, drop}
use Rattle.std.specs.List.{flat_map}
use Rattle.al_base.specs.declared.unit_key.UnitKey.{UnitKey}
use Rattle.al_view.specs.declared.symbol.Symbol.{Symbol}
use Rattle.al_view.specs.declared.types.TypeDefinition.{TypeDefinition}
use Rattle.al_view.specs.declared.types.TypeView.{TypeView}
use Rattle.al_view.specs.declared.view.ViewKind.{ViewKind}
use Rattle.al_view_predefined.specs.declared.operators.OperatorProfile.{OperatorProfile}
use Rattle.al_view_predefined.specs.declared.operators.OperatorSymbol.{OperatorSymbol}
use Rattle.al_view_predefined.specs.Operators.{operators_of, operator_view, spelling}
use Rattle.al_view_predefined.specs.Standard.{literal, of_type}
use Rattle.al_decl_judged.specs.declared.declaration.Declaration.{Declaration}
use Rattle.al_decl_judged.specs.Homonyms.{Counts, count_of, with_name}

abbrev pub declared_as : List ℕ → ViewKind → Declaration
declared_as name view = record { name = name; view = view }

-- the symbol of the next declaration of a name
abbrev pub next_symbol : UnitKey → Counts → List ℕ → Symbol
next_symbol unit counts name = record { unit = unit; name = name; number = count_of counts name }

-- these literals of a type, the first of them at that position
abbrev pub literals_from : Symbol → List TypeView → ℕ → List (List ℕ) → List Declaration
literals_from t types position [] = []
literals_from t types position (n ∷ ns) = declared_as n (literal t types position) ∷ literals_from t types (position + 1) ns

-- an operator by its profile and its sign
abbrev pub Sign : Type 0
Sign = OperatorProfile × OperatorSymbol

-- the operators of a type
abbrev pub signs_of : TypeDefinition → List Sign
signs_of definition = flat_map (λ g. map (λ o. (g.0, o)) g.1) (operators_of definition)

-- these operators of a type, each with its number among the declarations of its sign
abbrev pub operators_from : Symbol → List TypeView → Counts → List Sign → List Declaration
operators_from t types counts [] = []
operators_from t types counts (s ∷ ss) =
    declared_as (spelling s.1) (operator_view t types s.0 s.1 (count_of counts (spelling s.1)))
    ∷ operators_from t types (with_name counts (spelling s.1)) ss

-- one more declaration of each name
abbrev pub with_names : Counts → List (List ℕ) → Counts
with_names counts names = fold with_name counts names

-- the names of these operators
abbrev pub spellings : List Sign → List (List ℕ)
spellings signs = map (λ s. spelling s.1) signs

-- a type of these types, the last of them, with its literals and with these operators
abbrev pub declared_with : List Sign → TypeView → List TypeView → List (List ℕ) → Counts → List Declaration
declared_with signs of types literals counts =
    declared_as of.symbol.name (of_type types literals)
    ∷ literals_from of.symbol types 0 literals ++ operators_from of.symbol types (with_names counts literals) signs

-- with its operators
abbrev pub declared_by : TypeView → List TypeView → List (List ℕ) → Counts → List Declaration
declared_by of types literals counts = declared_with (signs_of of.definition) of types literals counts

-- the operators that the full declaration of a private type declares: `=` and `/=`, which come first of all, are its partial view's (ARM 7.3.1(3))
abbrev pub later_signs : TypeDefinition → List Sign
later_signs definition = drop 2 (signs_of definition)

-- the full view of a private type
abbrev pub full_declared_by : TypeView → List TypeView → List (List ℕ) → Counts → List Declaration
full_declared_by of types literals counts = declared_with (later_signs of.definition) of types literals counts
