-- Lists of types that views hold: each type once, those of Standard left out.
use Rattle.std.specs.Prelude.{◌≡◌, Bool, not, List, [], ◌∷◌, ◌++◌, fold, filter, is_some, if◌then◌else◌}
use Rattle.std.specs.List.{list_any}
use Rattle.al_view.specs.Symbols.{same_symbol}
use Rattle.al_view.specs.declared.symbol.Symbol.{Symbol}
use Rattle.al_view.specs.declared.types.TypeView.{TypeView}
use Rattle.al_view_predefined.specs.StandardTypes.{type_of}

-- whether the type with this symbol is known where these are: it is one of them, or one of Standard's
abbrev pub is_known : List TypeView → Symbol → Bool
is_known types symbol = is_some (type_of types symbol)

-- the types that aren't Standard's, which every unit has
abbrev pub other_types : List TypeView → List TypeView
other_types types = filter (λ of. not (is_known [] of.symbol)) types

-- one more type, unless it is known there
abbrev pub with_type : List TypeView → TypeView → List TypeView
with_type types of = if is_known types of.symbol then types else types ++ of ∷ []

-- these types, and then those of the others that aren't known there
abbrev pub joined : List TypeView → List TypeView → List TypeView
joined types others = fold with_type types others

-- whether these symbols are those of the types
abbrev pub AreSymbolsOf : List TypeView → List Symbol → Type 0
AreSymbolsOf types symbols = (s : Symbol) → list_any (same_symbol s) symbols ≡ list_any (λ (of : TypeView). same_symbol of.symbol s) types
