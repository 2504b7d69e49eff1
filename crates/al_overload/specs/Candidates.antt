-- What a declaration may be if its name is used in an expression (ARM 8.6).
use Rattle.std.specs.Prelude.{Bool, true, false, List, [], ◌∷◌, map, fold, codes, Option, Some, None, if◌then◌else◌}
use Rattle.std.specs.Option.{option_map_or}
use Rattle.al_overload.specs.Labelling.{Tree, with_candidate}
use Rattle.al_overload.specs.declared.term.Candidate.{Candidate}
use Rattle.al_overload.specs.declared.types.Given.{Given}
use Rattle.al_overload.specs.declared.types.Given.TheVariants as g
use Rattle.al_overload.specs.declared.types.Expected.{Expected}
use Rattle.al_overload.specs.declared.types.Expected.TheVariants as w
use Rattle.al_view_predefined.specs.Operators.{standard_symbol}
use Rattle.al_view_predefined.specs.StandardTypes.{type_of}
use Rattle.al_view.specs.Symbols.{same_symbol}
use Rattle.al_view.specs.declared.symbol.Symbol.{Symbol}
use Rattle.al_view.specs.declared.types.Subtype.{Subtype}
use Rattle.al_view.specs.declared.types.TypeDefinition.{TypeDefinition}
use Rattle.al_view.specs.declared.types.TypeDefinition.TheVariants as definitions
use Rattle.al_view.specs.declared.types.TypeView.{TypeView}
use Rattle.al_view.specs.declared.view.CallKind.{CallKind}
use Rattle.al_view.specs.declared.view.CallKind.TheVariants as calls
use Rattle.al_view.specs.declared.view.ObjectView.{ObjectView}
use Rattle.al_view.specs.declared.view.Parameter.{Parameter}
use Rattle.al_view.specs.declared.view.SubprogramView.{SubprogramView}
use Rattle.al_view.specs.declared.view.ViewKind.{ViewKind}
use Rattle.al_view.specs.declared.view.ViewKind.TheVariants as views
use Rattle.al_overload.specs.Types.{value_type}

-- what gives this of no operands
abbrev pub giving : Given → Candidate
giving given = record { operands = []; given = given; is_root = false }

-- the type of what is put out (ARM A.10.7), which no declaration names
abbrev pub string : Symbol
string = standard_symbol (codes "string")

-- what a formal parameter wants: text, if it is of that type
abbrev pub wanted_of : List TypeView → Parameter → Expected
wanted_of types p = if same_symbol string p.subtype.base then w.Text else w.Value (value_type types p.subtype.base)

abbrev pub given_by : List TypeView → Option Subtype → Given
given_by types None = g.Nothing
given_by types (Some subtype) = g.Value (value_type types subtype.base)

-- an operator of the root type of all integer types
abbrev pub is_root : Symbol → CallKind → Bool
is_root root (calls.Operator of_type) = same_symbol of_type root
is_root root (calls.Subprogram depth) = false
is_root root calls.Predefined = false
is_root root calls.Protected = false
is_root root calls.Entry = false

abbrev pub called : Symbol → SubprogramView → Candidate
called root s = record { operands = map (wanted_of s.types) s.profile.parameters; given = given_by s.types s.profile.result; is_root = is_root root s.call }

-- a component of an array, by its index (ARM 4.1.1)
abbrev pub indexed : List TypeView → Subtype → Subtype → Candidate
indexed types index component =
    record { operands = w.Value (value_type types index.base) ∷ []; given = g.Value (value_type types component.base); is_root = false }

abbrev pub component_in : List TypeView → TypeDefinition → List Candidate
component_in types (definitions.Array index component) = indexed types index component ∷ []
component_in types (definitions.Integer bounds) = []
component_in types (definitions.Enumeration literals) = []
component_in types (definitions.Record components) = []
component_in types definitions.Time = []
component_in types definitions.Private = []

abbrev pub component_of : List TypeView → TypeView → List Candidate
component_of types t = component_in types t.definition

-- an object, and if it is an array one of its components
abbrev pub object_candidates : ObjectView → List Candidate
object_candidates o = giving (g.Value (value_type o.types o.subtype.base)) ∷ option_map_or (component_of o.types) (type_of o.types o.subtype.base) []

-- What a declaration may be. A component fits nothing within its own record's or protected object's declaration.
abbrev pub candidates_of : Symbol → ViewKind → List Candidate
candidates_of root (views.OfObject o) = object_candidates o
candidates_of root (views.OfNumber value) = giving g.Universal ∷ []
candidates_of root (views.OfLiteral l) = giving (g.Value (value_type l.types l.base)) ∷ []
candidates_of root (views.OfSubprogram s) = called root s ∷ []
candidates_of root views.OfComponent = []
candidates_of root (views.OfType t) = []
candidates_of root (views.OfSubtype s) = []
candidates_of root (views.OfTask t) = []
candidates_of root (views.OfProtected p) = []
candidates_of root (views.OfPackage symbol) = []

-- a type, subtype, task, protected object or package is no value and no call
abbrev pub is_no_value : ViewKind → Bool
is_no_value (views.OfObject o) = false
is_no_value (views.OfNumber value) = false
is_no_value (views.OfLiteral l) = false
is_no_value (views.OfSubprogram s) = false
is_no_value views.OfComponent = false
is_no_value (views.OfType t) = true
is_no_value (views.OfSubtype s) = true
is_no_value (views.OfTask t) = true
is_no_value (views.OfProtected p) = true
is_no_value (views.OfPackage symbol) = true

-- the head with more candidates
abbrev pub with_candidates : Tree → List Candidate → Tree
with_candidates tree cs = fold with_candidate tree cs

abbrev pub with_view : Symbol → Tree → ViewKind → Tree
with_view root tree view = with_candidates tree (candidates_of root view)

-- with all that these declarations may be
abbrev pub with_all : Symbol → Tree → List ViewKind → Tree
with_all root tree visible = fold (with_view root) tree visible
