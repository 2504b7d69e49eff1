-- What the names of a text denote at its place, as they are looked up one after another (ARM 4.1.3, 8.3). What is found is as the place sees it: of
-- private types whose full views are seen there, by these.
use Rattle.std.specs.Prelude.{ℕ, Bool, List, [], ◌++◌, fold, Option, Some, None, option_map, if◌then◌else◌}
use Rattle.al_base.specs.declared.unit_key.UnitKey.{UnitKey}
use Rattle.al_overload_lookup.specs.Keys.{dotted, is_none}
use Rattle.al_overload_lookup.specs.declared.denoted.Names.{Names}
use Rattle.al_overload_lookup.specs.TextNames.{names_in}
use Rattle.al_overload_lookup.specs.declared.name.TextName.{TextName}
use Rattle.al_overload_lookup.specs.declared.name.TextName.TheVariants.{Simple, Selected}
use Rattle.al_scope.specs.Seen.{all_seen_at}
use Rattle.al_query.specs.Known.{has_unit}
use Rattle.al_query.specs.Reads.{Table}
use Rattle.al_scope.specs.Expanded.{selected_at, within}
use Rattle.al_scope.specs.Places.{Place, place_units}
use Rattle.al_scope.specs.Visible.{visible_at}
use Rattle.al_tree_syntax.specs.ExpressionTrees.{ExpressionTree}
use Rattle.al_view.specs.Interfaces.{views_of, with_view}
use Rattle.al_view.specs.Named.{Declarations}
use Rattle.al_view.specs.declared.symbol.Symbol.{Symbol}
use Rattle.al_view.specs.declared.view.ViewKind.{ViewKind}
use Rattle.al_view.specs.declared.view.ViewKind.TheVariants as views

-- more views of a name
abbrev pub with_views : Declarations → List ℕ → List ViewKind → Declarations
with_views declarations name vs = fold (λ (d : Declarations) (v : ViewKind). with_view d name v) declarations vs

-- a package of the library that is mentioned
abbrev pub package_in : List UnitKey → ViewKind → Option Symbol
package_in packages (views.OfPackage s) = if has_unit packages s.unit then Some s else None
package_in packages (views.OfSubprogram s) = None
package_in packages (views.OfTask t) = None
package_in packages (views.OfProtected p) = None
package_in packages (views.OfType t) = None
package_in packages (views.OfSubtype s) = None
package_in packages (views.OfObject o) = None
package_in packages views.OfComponent = None
package_in packages (views.OfNumber value) = None
package_in packages (views.OfLiteral x) = None

-- a construct that may enclose a place: a subprogram, an entry, a task or a protected object
abbrev pub construct_of : ViewKind → Option Symbol
construct_of (views.OfSubprogram s) = Some s.symbol
construct_of (views.OfTask t) = Some t.symbol
construct_of (views.OfProtected p) = Some p.symbol
construct_of (views.OfPackage s) = None
construct_of (views.OfType t) = None
construct_of (views.OfSubtype s) = None
construct_of (views.OfObject o) = None
construct_of views.OfComponent = None
construct_of (views.OfNumber value) = None
construct_of (views.OfLiteral x) = None

abbrev pub selected_by : Table → Place → List ℕ → Option Symbol → Option Symbol → Option (List ViewKind)
selected_by t place name (Some s) construct = Some (all_seen_at t place (selected_at t name s place))
selected_by t place name None (Some s) = option_map (all_seen_at t place) (within t place.mentioned name s place.regions)
selected_by t place name None None = None

-- what is selected after a declaration's name: in a package that is mentioned or in a construct round the place; after all else nothing is looked for
unfoldable pub selected_in : Table → Place → List UnitKey → List ℕ → ViewKind → Option (List ViewKind)
selected_in t place packages name v = selected_by t place name (package_in packages v) (construct_of v)

-- with what was selected under the whole name
abbrev pub with_selected : List ℕ → ViewKind → Names → Option (List ViewKind) → Names
with_selected key v names (Some found) = record { visible = with_views names.visible key found; prefixes = with_view names.prefixes key v }
with_selected key v names None = names

abbrev pub with_each : Table → Place → List UnitKey → List ℕ → List ℕ → Names → List ViewKind → Names
with_each t place packages key name names vs = fold (λ (found : Names) (v : ViewKind). with_selected key v found (selected_in t place packages name v)) names vs

-- with all that is visible under a name
abbrev pub with_visible : Table → Place → List ℕ → Names → Names
with_visible t place name names = record { visible = with_views names.visible name (all_seen_at t place (visible_at t name place)); prefixes = names.prefixes }

-- with what is selected after a name
abbrev pub with_prefixed : Table → Place → List UnitKey → List ℕ → List ℕ → Names → Names
with_prefixed t place packages prefix name names = with_each t place packages (dotted prefix name) name names (views_of names.visible prefix)

abbrev pub is_new : Names → TextName → Bool
is_new names (Simple name) = is_none (views_of names.visible name)
is_new names (Selected prefix name) = is_none (views_of names.prefixes (dotted prefix name))

abbrev pub found : Table → Place → List UnitKey → Names → TextName → Names
found t place packages names (Simple name) = with_visible t place name names
found t place packages names (Selected prefix name) = with_prefixed t place packages prefix name names

-- with one name looked up, unless it was found already
unfoldable pub looked_up : Table → Place → List UnitKey → Names → TextName → Names
looked_up t place packages names name = if is_new names name then found t place packages names name else names

abbrev pub nothing_found : Names
nothing_found = record { visible = []; prefixes = [] }

abbrev pub looked_up_all : Table → Place → List UnitKey → List TextName → Names
looked_up_all t place packages names = fold (looked_up t place packages) nothing_found names

-- what the names of an expression's text denote
abbrev pub names_at : Table → Place → List UnitKey → ExpressionTree → Names
names_at t place packages x = looked_up_all t place packages (names_in x)

-- ---- which questions are asked

-- the units that may be asked: those of the place, and the packages that are mentioned
abbrev pub asked_units : Place → List UnitKey → List UnitKey
asked_units place packages = place_units place ++ packages

-- the identifier that they are asked for
abbrev pub asked_name : TextName → List ℕ
asked_name (Simple name) = name
asked_name (Selected prefix name) = name
