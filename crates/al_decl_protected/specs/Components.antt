-- Components of a protected object where they are declared (ARM 9.4).
use Rattle.std.specs.Prelude.{ℕ, List, [], ◌∷◌, ◌++◌, map, fold, Option, Some, None, Result, Ok, Err}
use Rattle.al_base_fault.specs.Judging.{both, map_ok, next, unless}
use Rattle.al_base_fault.specs.declared.fault.Fault.{Fault}
use Rattle.al_decl.specs.Declaring.{begun}
use Rattle.al_decl.specs.Inner.{made_visible}
use Rattle.al_decl_judged.specs.declared.names.DefiningName.{DefiningName}
use Rattle.al_decl.specs.Defining.{defining_names}
use Rattle.al_decl.specs.PartReadings.{PartReading}
use Rattle.al_decl.specs.Components.{names_fault}
use Rattle.al_decl_judged.specs.TypeLists.{joined}
use Rattle.al_decl_judged.specs.Types.{words_of}
use Rattle.al_decl_judged.specs.WordCounts.{place_after}
use Rattle.al_query.specs.Reads.{Table}
use Rattle.al_scope.specs.Places.{Place}
use Rattle.al_tree_syntax.specs.DeclarationTrees.{ProtectedComponentTree, ProtectedPrivateTree}
use Rattle.al_tree_syntax.specs.ExpressionTrees.{ExpressionTree}
use Rattle.al_view.specs.declared.types.Component.{Component}
use Rattle.al_view.specs.declared.types.TypeView.{TypeView}
use Rattle.al_view.specs.declared.view.SubtypeView.{SubtypeView}
use Rattle.al_view_typed.specs.DeclarationTrees.{ComponentValueTree, component_value_model}
use Rattle.al_view_typed.specs.ExpressionTrees.{TypedTree, Checked}
use Rattle.al_decl_protected.specs.declared.components.PrivateComponents.{PrivateComponents}

-- components in order, the types that they are of, the words that they take, and the values of those that have one
pub record PrivateTree : Type 0 where
  pub components : List Component
  pub types : List TypeView
  pub words : ℕ
  pub values : List ComponentValueTree

abbrev pub private_model : PrivateComponents → PrivateTree
private_model c = record { components = c.components; types = c.types; words = c.words; values = map component_value_model c.values.items }

abbrev pub no_components : PrivateTree
no_components = record { components = []; types = []; words = 0; values = [] }

-- ---- words

-- each of these names has so many words, from there on
abbrev pub places_from : ℕ → ℕ → List DefiningName → List ℕ
places_from words word [] = []
places_from words word (n ∷ ns) = word ∷ places_from words (place_after word words) ns

abbrev pub word_after : ℕ → ℕ → List DefiningName → ℕ
word_after words word names = fold (λ (w : ℕ) (n : DefiningName). place_after w words) word names

-- ---- one declaration: each of its names is a component of the one subtype, and all have the one value

abbrev pub component : SubtypeView → DefiningName → Component
component of n = record { name = n.name; subtype = of.subtype }

abbrev pub value_at : SubtypeView → List ℕ → TypedTree → ComponentValueTree
value_at of places value = record { places = places; words = words_of of; value = Checked value of.subtype.bounds }

abbrev pub with_value : List ComponentValueTree → SubtypeView → List ℕ → Option TypedTree → List ComponentValueTree
with_value values of places None = values
with_value values of places (Some value) = values ++ value_at of places value ∷ []

abbrev pub with_components : PrivateTree → List DefiningName → SubtypeView × Option TypedTree → PrivateTree
with_components so_far names x = record {
  components = so_far.components ++ map (component x.0) names;
  types = joined so_far.types x.0.types;
  words = word_after (words_of x.0) so_far.words names;
  values = with_value so_far.values x.0 (places_from (words_of x.0) so_far.words names) x.1;
}

-- the value of a component of a faulty subtype isn't read
abbrev pub initial_read : PartReading → Place → Result SubtypeView Fault → Option ExpressionTree → Result (Option TypedTree) Fault
initial_read R place of None = Ok None
initial_read R place (Err f) (Some e) = Err f
initial_read R place (Ok of) (Some e) = map_ok Some (R.value place of e)

-- subtype and value are read where the names are begun
abbrev pub subtype_read : PartReading → Place → ProtectedComponentTree → Result SubtypeView Fault
subtype_read R place c = R.indication place c.subtype

abbrev pub parts_read : PartReading → Place → ProtectedComponentTree → Result (SubtypeView × Option TypedTree) Fault
parts_read R place c = both (subtype_read R place c) (initial_read R place (subtype_read R place c) c.initial)

abbrev pub component_named : PartReading → Table → Place → PrivateTree → ProtectedComponentTree → List DefiningName → Result PrivateTree Fault
component_named R t place so_far c names =
    map_ok (with_components so_far names) (unless (names_fault t place names) (parts_read R (begun place names) c))

abbrev pub component_checked : PartReading → Table → Place → PrivateTree → ProtectedComponentTree → Result PrivateTree Fault
component_checked R t place so_far c = component_named R t place so_far c (defining_names c.names)

-- ---- all of them

-- from its end on a component is visible, without a value
abbrev pub after_component : Place → ProtectedComponentTree → Place
after_component place c = made_visible (begun place (defining_names c.names)) (defining_names c.names)

-- a faulty one ends the list
abbrev pub components_checked : PartReading → Table → Place → PrivateTree → List ProtectedComponentTree → Result PrivateTree Fault
components_checked R t place so_far [] = Ok so_far
components_checked R t place so_far (c ∷ cs) =
    next (component_checked R t place so_far c) (λ (s : PrivateTree). components_checked R t (after_component place c) s cs)

abbrev pub private_list : Option ProtectedPrivateTree → List ProtectedComponentTree
private_list None = []
private_list (Some p) = p.components
