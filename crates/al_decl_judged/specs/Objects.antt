-- Object declarations (ARM 3.3.1).
use Rattle.std.specs.Prelude.{ℕ, Bool, List, [], ◌∷◌, fold, Option, Some, None, is_some, option_map, unwrap_or, Result, Ok, slice_get}
use Rattle.std.specs.Option.{option_and_then}
use Rattle.al_base_fault.specs.declared.fault.Fault.{Fault}
use Rattle.al_base_fault.specs.Faults.{earlier}
use Rattle.al_base_fault.specs.Judging.{both, next, map_ok, unless}
use Rattle.al_base.specs.declared.place.Place.{Place}
use Rattle.al_view.specs.declared.symbol.Symbol.{Symbol}
use Rattle.al_view.specs.declared.types.Bounds.{Bounds}
use Rattle.al_view.specs.declared.types.StaticValue.{StaticValue}
use Rattle.al_view.specs.declared.view.ObjectPlace.{ObjectPlace}
use Rattle.al_view.specs.declared.view.SubtypeView.{SubtypeView}
use Rattle.al_view_typed.specs.DeclarationTrees.{DeclarationTree, Objects}
use Rattle.al_view_typed.specs.ExpressionTrees.{TypedTree, ValueTree, Checked}
use Rattle.al_decl_judged.specs.declared.declaration.Declaration.{Declaration}
use Rattle.al_decl_judged.specs.TypeObjects.{missing_value, object_view, whole_subtype}
use Rattle.al_decl_judged.specs.TypeDeclarations.{declared_as}
use Rattle.al_decl_judged.specs.Types.{array_type, array_view, words_of}
use Rattle.al_decl_judged.specs.Declaring.{DeclaredTree}
use Rattle.al_decl_judged.specs.DefiningNames.{names_of, repeated}
use Rattle.al_decl_judged.specs.Progressing.{after_object, next_place, symbol_of, with_counted}
use Rattle.al_decl_judged.specs.Rules.{optional}
use Rattle.al_decl_judged.specs.StaticPieces.{value_label}
use Rattle.al_decl_judged.specs.declared.names.DefiningName.{DefiningName}
use Rattle.al_decl_judged.specs.declared.new_object.NewObject.{NewObject}
use Rattle.al_decl_judged.specs.declared.new_object.ObjectType.{ObjectType}
use Rattle.al_decl_judged.specs.declared.new_object.ObjectType.TheVariants.{Marked, AnonymousArray}
use Rattle.al_decl_judged.specs.declared.progress.Progress.{Progress}

-- ---- names with their subtypes

-- the subtype of an object with that symbol: that of the mark, or an array type of its own (ARM 3.3.1(7))
abbrev pub subtype_for : Symbol → Place → ObjectType → Result SubtypeView Fault
subtype_for symbol place (Marked of) = Ok of
subtype_for symbol place (AnonymousArray index component) =
    map_ok (λ types. whole_subtype types (array_view symbol index component)) (array_type symbol place index component)

abbrev pub new_object : Progress → ObjectType → DefiningName → Result NewObject Fault
new_object p of n = map_ok (λ s. record { name = n.name; symbol = symbol_of p n.name; subtype = s }) (subtype_for (symbol_of p n.name) n.place of)

-- an object for each name, in order
abbrev pub new_objects : Progress → ObjectType → List DefiningName → Result (List NewObject) Fault
new_objects p of [] = Ok []
new_objects p of (n ∷ ns) = next (new_object p of n) (λ o. map_ok (λ os. o ∷ os) (new_objects (with_counted p n.name) of ns))

-- ---- their places

-- an object takes its words
abbrev pub with_object : Progress → NewObject → Progress
with_object p o = after_object p o.symbol (words_of o.subtype)

abbrev pub with_objects : Progress → List NewObject → Progress
with_objects p objects = fold with_object p objects

-- each object lies after those before it
abbrev pub places_of : Progress → List NewObject → List ObjectPlace
places_of p [] = []
places_of p (o ∷ os) = next_place p o.symbol ∷ places_of (with_object p o) os

-- and is declared with its place, and with the value of a static constant
abbrev pub objects_of : Progress → Bool → Option StaticValue → List NewObject → List Declaration
objects_of p constant value [] = []
objects_of p constant value (o ∷ os) =
    declared_as o.name (object_view o.subtype constant value (next_place p o.symbol)) ∷ objects_of (with_object p o) constant value os

-- ---- the declaration

-- what is wrong with the names: a homograph, a name that is there twice, a constant without a value
abbrev pub objects_fault : Bool → Bool → Option Fault → List DefiningName → Option Fault
objects_fault constant has_value duplicate names =
    earlier (earlier duplicate (repeated [] names)) (option_and_then (λ (n : DefiningName). missing_value constant has_value n.place) (slice_get names 0))

-- all objects of a declaration have as many words
abbrev pub words_each : List NewObject → ℕ
words_each objects = unwrap_or (option_map (λ (o : NewObject). words_of o.subtype) (slice_get objects 0)) 0

-- and one range, against which the value is checked
abbrev pub checked_range : List NewObject → Option Bounds
checked_range objects = option_and_then (λ (o : NewObject). o.subtype.subtype.bounds) (slice_get objects 0)

-- the objects' words are filled with the value or with zeros
abbrev pub objects_filled : Progress → ℕ → List NewObject → Option TypedTree → DeclarationTree
objects_filled p line objects value = record {
  line = line;
  form = Objects (places_of p objects) (words_each objects) (option_map (λ (v : TypedTree). Checked v (checked_range objects)) value);
}

abbrev pub placed_objects : Progress → ℕ → Bool → List NewObject → Option TypedTree → Progress × DeclaredTree
placed_objects p line constant objects value = (
  with_objects p objects,
  record {
    declarations = objects_of p constant (option_and_then value_label value) objects;
    effect = Some (objects_filled p line objects value);
  },
)

-- names : [constant] type [:= value], whose first token is on that line
abbrev pub objects_declared : Progress → ℕ → Bool → Option Fault → List DefiningName → Result (List NewObject) Fault → Option (Result TypedTree Fault) → Result (Progress × DeclaredTree) Fault
objects_declared p line constant duplicate names objects value =
    map_ok (λ (o : List NewObject × Option TypedTree). placed_objects p line constant o.0 o.1) (unless (objects_fault constant (is_some value) duplicate names) (both objects (optional value)))
