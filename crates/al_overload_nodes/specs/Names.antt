-- Names of objects and of their parts (ARM 4.1).
use Rattle.std.specs.Prelude.{ℕ, Bool, false, not, List, [], ◌∷◌, Option, None, Result, Ok, Err}
use Rattle.std.specs.Option.{option_map_or}
use Rattle.al_base.specs.declared.place.Place.{Place}
use Rattle.al_base_fault.specs.declared.check_rule.CheckRule.TheVariants.{NotAVariable}
use Rattle.al_base_fault.specs.Faults.{earlier, fault_at}
use Rattle.al_base_fault.specs.Judging.{both, next, map_ok}
use Rattle.al_base_fault.specs.declared.fault.Fault.{Fault}
use Rattle.al_overload.specs.Meanings.{nothing_fits}
use Rattle.al_static.specs.Combining.{failure_in, named}
use Rattle.al_static.specs.declared.knowledge.Known.TheVariants.{Open}
use Rattle.al_overload.specs.Terms.{TermTree, TermTree as t}
use Rattle.al_view_typed.specs.ExpressionTrees.{TypedTree, FormTree, NameTree}
use Rattle.al_view_typed.specs.FormNames.{name_in as form_name}
use Rattle.al_view_typed.specs.ExpressionTrees.TypedTree.{Labelled}
use Rattle.al_view_typed.specs.ExpressionTrees.FormTree.{NamedForm}
use Rattle.al_view_typed.specs.ExpressionTrees.NameTree.{ObjectName, ComponentName, IndexedName}
use Rattle.al_view.specs.declared.symbol.Symbol.{Symbol}
use Rattle.al_view.specs.declared.types.Bounds.{Bounds}
use Rattle.al_view.specs.declared.types.Subtype.{Subtype}
use Rattle.al_view.specs.declared.types.TypeView.{TypeView}
use Rattle.al_view.specs.declared.view.ObjectView.{ObjectView}
use Rattle.al_view.specs.declared.view.ViewKind.{ViewKind}
use Rattle.al_view.specs.declared.view.ViewKind.TheVariants as views
use Rattle.al_overload.specs.declared.part.Nominal.{Nominal}
use Rattle.al_overload_nodes.specs.Nodes.{ReadingTree, misfit, node}
use Rattle.al_overload.specs.PickedTypes.{Indexing, component_at, range_in, words_in}

abbrev pub object_node : Symbol → Place → ObjectView → ReadingTree
object_node root place o =
    node root place o.types o.subtype.base (range_in o.types o.subtype) (named o.value None) (Ok (NamedForm (ObjectName o.place o.is_constant)))

-- what an expression is that is to be the name of an object
abbrev pub name_of : Place → FormTree → Result NameTree Fault
name_of place form = option_map_or Ok (form_name form) (Err (nothing_fits place))

abbrev pub name_in : TypedTree → Result NameTree Fault
name_in (Labelled labels form) = name_of labels.place form

abbrev pub as_name : Result TypedTree Fault → Result NameTree Fault
as_name tree = next tree name_in

-- a component from this word of its record on
abbrev pub component_form : ℕ → NameTree → FormTree
component_form offset whole = NamedForm (ComponentName whole offset)

abbrev pub component_node : Symbol → Place → List TypeView → ReadingTree → Subtype × ℕ → ReadingTree
component_node root place types whole c =
    node root place types c.0.base (range_in types c.0) (Open (failure_in whole.known)) (map_ok (component_form c.1) (as_name whole.tree))

-- a component of that name of what has this nominal subtype
abbrev pub selected_in : Symbol → Place → List ℕ → ReadingTree → Nominal → ReadingTree
selected_in root place name whole part =
    option_map_or (component_node root place part.types whole) (component_at name part.types part.subtype.base) (misfit place)

abbrev pub selected_node : Symbol → Place → List ℕ → Option Nominal → ReadingTree → ReadingTree
selected_node root place name part whole = option_map_or (selected_in root place name whole) part (misfit place)

-- a component of so many words, by an index
abbrev pub element_form : Bounds → ℕ → NameTree × TypedTree → FormTree
element_form bounds words name = NamedForm (IndexedName name.0 name.1 bounds words)

abbrev pub element_node : Symbol → Place → List TypeView → Indexing → ReadingTree → ReadingTree → ReadingTree
element_node root place types by whole index =
    node root place types by.component.base (range_in types by.component) (Open (earlier (failure_in whole.known) (failure_in index.known)))
    (map_ok (element_form by.bounds (words_in types by.component.base)) (both (as_name whole.tree) index.tree))

-- whether a term names a variable or a part of one (ARM 3.3(13))
abbrev pub is_variable_view : ViewKind → Bool
is_variable_view (views.OfObject o) = not o.is_constant
is_variable_view (views.OfNumber value) = false
is_variable_view (views.OfLiteral l) = false
is_variable_view (views.OfSubprogram s) = false
is_variable_view views.OfComponent = false
is_variable_view (views.OfType of) = false
is_variable_view (views.OfSubtype s) = false
is_variable_view (views.OfTask of) = false
is_variable_view (views.OfProtected p) = false
is_variable_view (views.OfPackage symbol) = false

abbrev pub is_sole_variable : List ViewKind → Bool
is_sole_variable [] = false
is_sole_variable (v ∷ []) = is_variable_view v
is_sole_variable (v ∷ (w ∷ more)) = false

abbrev pub is_variable : TermTree → Bool
is_variable (t.NamedTerm place visible) = is_sole_variable visible
is_variable (t.SelectedTerm prefix name) = is_variable prefix
is_variable (t.AppliedTerm prefix arguments) = is_variable prefix
is_variable _ = false

abbrev pub no_variable : Place → Fault
no_variable place = fault_at place NotAVariable
