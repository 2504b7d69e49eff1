-- The symbols that a view holds.
use Rattle.std.specs.Prelude.{List, [], ◌∷◌, ◌++◌, map, Option, Some, None}
use Rattle.std.specs.List.{flat_map}
use Rattle.al_view.specs.declared.symbol.Symbol.{Symbol}
use Rattle.al_view.specs.declared.types.Component.{Component}
use Rattle.al_view.specs.declared.types.Subtype.{Subtype}
use Rattle.al_view.specs.declared.types.TypeDefinition.{TypeDefinition}
use Rattle.al_view.specs.declared.types.TypeDefinition.TheVariants.{Array, Record}
use Rattle.al_view.specs.declared.types.TypeView.{TypeView}
use Rattle.al_view.specs.declared.view.CallKind.{CallKind}
use Rattle.al_view.specs.declared.view.CallKind.TheVariants.{Operator}
use Rattle.al_view.specs.declared.view.ObjectPlace.{ObjectPlace}
use Rattle.al_view.specs.declared.view.ObjectPlace.TheVariants.{Frame, Static}
use Rattle.al_view.specs.declared.view.Profile.{Profile}
use Rattle.al_view.specs.declared.view.SubprogramView.{SubprogramView}
use Rattle.al_view.specs.declared.view.ViewKind.{ViewKind}
use Rattle.al_view.specs.declared.view.ViewKind.TheVariants.{OfType, OfSubtype, OfObject, OfComponent, OfNumber, OfLiteral, OfSubprogram, OfTask, OfProtected, OfPackage}

abbrev pub component_symbols : List Component → List Symbol
component_symbols components = map (λ c. c.subtype.base) components

abbrev pub definition_symbols : TypeDefinition → List Symbol
definition_symbols (Array index component) = index.base ∷ component.base ∷ []
definition_symbols (Record components) = component_symbols components
definition_symbols _ = []

abbrev pub type_symbols : List TypeView → List Symbol
type_symbols types = flat_map (λ t. t.symbol ∷ definition_symbols t.definition) types

abbrev pub place_symbols : ObjectPlace → List Symbol
place_symbols (Frame depth word) = []
place_symbols (Static symbol word) = symbol ∷ []

abbrev pub flag_symbols : Option ObjectPlace → List Symbol
flag_symbols (Some place) = place_symbols place
flag_symbols None = []

abbrev pub result_symbols : Option Subtype → List Symbol
result_symbols (Some r) = r.base ∷ []
result_symbols None = []

abbrev pub profile_symbols : Profile → List Symbol
profile_symbols p = map (λ q. q.subtype.base) p.parameters ++ result_symbols p.result

abbrev pub call_symbols : CallKind → List Symbol
call_symbols (Operator of_type) = of_type ∷ []
call_symbols _ = []

abbrev pub subprogram_symbols : SubprogramView → List Symbol
subprogram_symbols s = s.symbol ∷ profile_symbols s.profile ++ type_symbols s.types ++ call_symbols s.call ++ flag_symbols s.flag

-- all symbols that a view holds
unfoldable pub symbols_of : ViewKind → List Symbol
symbols_of (OfType t) = type_symbols t.types
symbols_of (OfSubtype s) = s.subtype.base ∷ type_symbols s.types
symbols_of (OfObject o) = o.subtype.base ∷ type_symbols o.types ++ place_symbols o.place
symbols_of OfComponent = []
symbols_of (OfNumber n) = []
symbols_of (OfLiteral l) = l.base ∷ type_symbols l.types
symbols_of (OfSubprogram s) = subprogram_symbols s
symbols_of (OfTask t) = t.symbol ∷ []
symbols_of (OfProtected p) = p.symbol ∷ flat_map (λ o. subprogram_symbols o.subprogram) p.operations ++ component_symbols p.components ++ type_symbols p.types
symbols_of (OfPackage s) = s ∷ []
