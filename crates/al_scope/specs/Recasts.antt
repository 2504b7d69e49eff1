-- Views in which some types are seen otherwise: by their full views in place of partial ones, or the other way round (ARM 7.3).
use Rattle.std.specs.Prelude.{ℕ, Bool, true, false, ◌&&◌, List, [], ◌∷◌, ◌++◌, map, fold, int_le, Option, Some, None, option_map, if◌then◌else◌}
use Rattle.std.specs.List.{find, flat_map, list_any}
use Rattle.std.specs.Option.{option_and_then, option_map_or}
use Rattle.al_view.specs.Symbols.{same_symbol}
use Rattle.al_view.specs.Types.{definition_bounds}
use Rattle.al_view.specs.declared.symbol.Symbol.{Symbol}
use Rattle.al_view.specs.declared.types.Bounds.{Bounds}
use Rattle.al_view.specs.declared.types.Component.{Component}
use Rattle.al_view.specs.declared.types.Subtype.{Subtype}
use Rattle.al_view.specs.declared.types.TypeDefinition.{TypeDefinition}
use Rattle.al_view.specs.declared.types.TypeDefinition.TheVariants.{Integer, Enumeration, Array, Record, Time, Private}
use Rattle.al_view.specs.declared.types.TypeView.{TypeView}
use Rattle.al_view.specs.declared.view.CallKind.{CallKind}
use Rattle.al_view.specs.declared.view.CallKind.TheVariants as calls
use Rattle.al_view.specs.declared.view.DeclaredType.{DeclaredType}
use Rattle.al_view.specs.declared.view.LiteralView.{LiteralView}
use Rattle.al_view.specs.declared.view.ObjectView.{ObjectView}
use Rattle.al_view.specs.declared.view.Operation.{Operation}
use Rattle.al_view.specs.declared.view.Parameter.{Parameter}
use Rattle.al_view.specs.declared.view.Profile.{Profile}
use Rattle.al_view.specs.declared.view.ProtectedView.{ProtectedView}
use Rattle.al_view.specs.declared.view.SubprogramView.{SubprogramView}
use Rattle.al_view.specs.declared.view.SubtypeView.{SubtypeView}
use Rattle.al_view.specs.declared.view.ViewKind.{ViewKind}
use Rattle.al_view.specs.declared.view.ViewKind.TheVariants.{OfType, OfSubtype, OfObject, OfComponent, OfNumber, OfLiteral, OfSubprogram, OfTask, OfProtected, OfPackage}
use Rattle.al_scope.specs.PartialViews.{own_type}
use Rattle.al_scope.specs.declared.recast.Recast.{Recast}

-- ---- which type is seen how

abbrev pub is_recast : Symbol → Recast → Bool
is_recast s r = option_map_or (λ (t : TypeView). same_symbol s t.symbol) (own_type r.by.types) false

abbrev pub recast_of : List Recast → Symbol → Option Recast
recast_of recasts s = find (is_recast s) recasts

-- the bounds of a scalar type as it is seen then
abbrev pub new_bounds : Recast → Option Bounds
new_bounds r = option_and_then (λ (t : TypeView). definition_bounds t.definition) (own_type r.by.types)

abbrev pub same_bounds : Option Bounds → Option Bounds → Bool
same_bounds None None = true
same_bounds None (Some b) = false
same_bounds (Some a) None = false
same_bounds (Some a) (Some b) = (int_le a.low b.low && int_le b.low a.low) && (int_le a.high b.high && int_le b.high a.high)

-- ---- a subtype of all values of a type is one of all values of the type as it is seen then; other bounds stay

abbrev pub recast_bounds : List Recast → Subtype → Option Bounds
recast_bounds recasts s = option_map_or (λ (r : Recast). if same_bounds s.bounds r.bounds then new_bounds r else s.bounds) (recast_of recasts s.base) s.bounds

abbrev pub recast_subtype : List Recast → Subtype → Subtype
recast_subtype recasts s = record { base = s.base; bounds = recast_bounds recasts s }

abbrev pub recast_component : List Recast → Component → Component
recast_component recasts c = record { name = c.name; subtype = recast_subtype recasts c.subtype }

abbrev pub recast_definition : List Recast → TypeDefinition → TypeDefinition
recast_definition recasts (Array index component) = Array (recast_subtype recasts index) (recast_subtype recasts component)
recast_definition recasts (Record components) = Record (map (recast_component recasts) components)
recast_definition recasts (Integer bounds) = Integer bounds
recast_definition recasts (Enumeration literals) = Enumeration literals
recast_definition recasts Time = Time
recast_definition recasts Private = Private

-- ---- types: what one is seen as takes its place, with the types that this is of, each once

abbrev pub recast_type : List Recast → TypeView → TypeView
recast_type recasts t = record { symbol = t.symbol; definition = recast_definition recasts t.definition; layout = t.layout }

abbrev pub seen_as : List Recast → TypeView → List TypeView
seen_as recasts t = option_map_or (λ (r : Recast). r.by.types) (recast_of recasts t.symbol) (recast_type recasts t ∷ [])

abbrev pub with_type : List TypeView → TypeView → List TypeView
with_type types t = if list_any (λ (of : TypeView). same_symbol of.symbol t.symbol) types then types else types ++ t ∷ []

abbrev pub with_recast : List Recast → List TypeView → TypeView → List TypeView
with_recast recasts types t = fold with_type types (seen_as recasts t)

abbrev pub recast_types : List Recast → List TypeView → List TypeView
recast_types recasts types = fold (with_recast recasts) [] types

-- the names of literals of a type or a subtype
abbrev pub recast_literals : List Recast → Symbol → List (List ℕ) → List (List ℕ)
recast_literals recasts base literals = option_map_or (λ (r : Recast). r.by.literals) (recast_of recasts base) literals

-- ---- declarations

abbrev pub recast_declared : List Recast → DeclaredType → DeclaredType
recast_declared recasts d = record {
  types = recast_types recasts d.types;
  literals = option_map_or (λ (t : TypeView). recast_literals recasts t.symbol d.literals) (own_type d.types) d.literals;
}

abbrev pub recast_subtype_view : List Recast → SubtypeView → SubtypeView
recast_subtype_view recasts s = record {
  subtype = recast_subtype recasts s.subtype;
  types = recast_types recasts s.types;
  literals = recast_literals recasts s.subtype.base s.literals;
}

abbrev pub recast_object : List Recast → ObjectView → ObjectView
recast_object recasts o = record o { subtype = recast_subtype recasts o.subtype; types = recast_types recasts o.types }

abbrev pub recast_literal : List Recast → LiteralView → LiteralView
recast_literal recasts l = record l { types = recast_types recasts l.types }

abbrev pub recast_parameter : List Recast → Parameter → Parameter
recast_parameter recasts p = record p { subtype = recast_subtype recasts p.subtype }

abbrev pub is_operator : CallKind → Bool
is_operator (calls.Operator of_type) = true
is_operator (calls.Subprogram depth) = false
is_operator calls.Predefined = false
is_operator calls.Protected = false
is_operator calls.Entry = false

-- the operands and the result of an operator are of the type without bounds (ARM 4.5)
abbrev pub recast_profile : List Recast → CallKind → Profile → Profile
recast_profile recasts call p =
    if is_operator call then p
    else record { parameters = map (recast_parameter recasts) p.parameters; result = option_map (recast_subtype recasts) p.result }

abbrev pub recast_subprogram : List Recast → SubprogramView → SubprogramView
recast_subprogram recasts s = record s { profile = recast_profile recasts s.call s.profile; types = recast_types recasts s.types }

abbrev pub recast_operation : List Recast → Operation → Operation
recast_operation recasts o = record { name = o.name; subprogram = recast_subprogram recasts o.subprogram }

abbrev pub recast_protected : List Recast → ProtectedView → ProtectedView
recast_protected recasts p = record p {
  operations = map (recast_operation recasts) p.operations;
  components = map (recast_component recasts) p.components;
  types = recast_types recasts p.types;
}

abbrev pub recast_view : List Recast → ViewKind → ViewKind
recast_view recasts (OfType d) = OfType (recast_declared recasts d)
recast_view recasts (OfSubtype s) = OfSubtype (recast_subtype_view recasts s)
recast_view recasts (OfObject o) = OfObject (recast_object recasts o)
recast_view recasts OfComponent = OfComponent
recast_view recasts (OfNumber n) = OfNumber n
recast_view recasts (OfLiteral l) = OfLiteral (recast_literal recasts l)
recast_view recasts (OfSubprogram s) = OfSubprogram (recast_subprogram recasts s)
recast_view recasts (OfTask t) = OfTask t
recast_view recasts (OfProtected p) = OfProtected (recast_protected recasts p)
recast_view recasts (OfPackage s) = OfPackage s

-- if no type is seen otherwise, it stays as it is
unfoldable pub recast : List Recast → ViewKind → ViewKind
recast [] v = v
recast (r ∷ rs) v = recast_view (r ∷ rs) v

abbrev pub operation_types : List Operation → List TypeView
operation_types operations = flat_map (λ (o : Operation). o.subprogram.types) operations

-- the types that a view holds
abbrev pub view_types : ViewKind → List TypeView
view_types (OfType d) = d.types
view_types (OfSubtype s) = s.types
view_types (OfObject o) = o.types
view_types OfComponent = []
view_types (OfNumber n) = []
view_types (OfLiteral l) = l.types
view_types (OfSubprogram s) = s.types
view_types (OfTask t) = []
view_types (OfProtected p) = p.types ++ operation_types p.operations
view_types (OfPackage s) = []
