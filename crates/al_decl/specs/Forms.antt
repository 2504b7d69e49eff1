-- Declarations of objects, numbers, types and subtypes at a place (ARM 3.2.1, 3.2.2, 3.3.1, 3.3.2), by what is read there.
use Rattle.std.specs.Prelude.{ℕ, Bool, List, [], ◌∷◌, Option, Some, None, option_map, Result, Ok, Err}
use Rattle.al_decl_judged.specs.Declaring.{DeclaredTree}
use Rattle.al_decl_judged.specs.DefiningNames.{names_of}
use Rattle.al_decl_judged.specs.Numbers.{numbers_declared}
use Rattle.al_decl_judged.specs.Objects.{new_objects, objects_declared}
use Rattle.al_decl_judged.specs.Progressing.{with_all_counted}
use Rattle.al_decl_judged.specs.StaticPieces.{static_of, static_range}
use Rattle.al_decl_judged.specs.Subtypes.{subtype_declared}
use Rattle.al_decl_judged.specs.TypeKinds.{array_declared, enumeration_declared, integer_declared, private_declared}
use Rattle.al_decl_judged.specs.declared.names.DefiningName.{DefiningName}
use Rattle.al_decl_judged.specs.declared.names.TypeName.{TypeName}
use Rattle.al_decl_judged.specs.declared.new_object.NewObject.{NewObject}
use Rattle.al_decl_judged.specs.declared.new_object.ObjectType.{ObjectType}
use Rattle.al_decl_judged.specs.declared.new_object.ObjectType.TheVariants as object_types
use Rattle.al_decl_judged.specs.declared.progress.Progress.{Progress}
use Rattle.al_decl.specs.Declaring.{begun, begun_one, duplicate, duplicates}
use Rattle.al_decl.specs.TypeNames.{enumeration_duplicate, type_begun, type_duplicate}
use Rattle.al_decl.specs.declared.env.Environment.{Environment}
use Rattle.al_decl_judged.specs.declared.subtype_views.StaticRange.{StaticRange}
use Rattle.al_base_fault.specs.Judging.{both, next, map_ok}
use Rattle.al_base_fault.specs.declared.fault.Fault.{Fault}
use Rattle.al_decl.specs.PartReadings.{PartReading}
use Rattle.al_query.specs.declared.answer.AnswerKind.{AnswerKind}
use Rattle.al_query.specs.declared.query.Query.{Query}
use Rattle.al_scope.specs.Places.{Place}
use Rattle.al_tree_syntax.specs.DeclarationTrees.{ArrayTree, ObjectTypeTree, RangeTree, SubtypeIndicationTree}
use Rattle.al_tree_syntax.specs.DeclarationTrees.ObjectTypeTree.{NamedType, AnonymousArray}
use Rattle.al_tree_syntax.specs.ExpressionTrees.{ExpressionTree}
use Rattle.al_view_typed.specs.DeclarationTrees.{DeclarationTree}
use Rattle.al_view_typed.specs.ExpressionTrees.{TypedTree}
use Rattle.al_view.specs.declared.view.SubtypeView.{SubtypeView}
use Rattle.al_view.specs.declared.view.ViewKind.TheVariants.{OfComponent}
use Rattle.al_decl.specs.Checking.{finished, inside, inside_one, inside_type}

-- ---- numbers, subtypes

abbrev pub number_checked : PartReading → (Query → AnswerKind) → Environment → List DefiningName → ExpressionTree → Result (Environment × Option DeclarationTree) Fault
number_checked R t h names value =
    finished (inside h names) (numbers_declared h.progress names (duplicates t h.scope OfComponent names) (next (R.number (begun h.scope names) value) static_of))

abbrev pub subtype_checked : PartReading → (Query → AnswerKind) → Environment → DefiningName → SubtypeIndicationTree → Result (Environment × Option DeclarationTree) Fault
subtype_checked R t h n indication =
    finished (inside_one h n) (subtype_declared h.progress n (duplicate t h.scope OfComponent n) (R.indication (begun_one h.scope n) indication))

-- ---- types

-- bounds that must be static
abbrev pub static_pair : Result TypedTree Fault → Result TypedTree Fault → Result StaticRange Fault
static_pair low high = next (both low high) (λ (b : TypedTree × TypedTree). static_range b.0 b.1)

abbrev pub range_read : PartReading → Place → RangeTree → Result StaticRange Fault
range_read R place r = static_pair (R.bound place r.low) (R.bound place r.high)

abbrev pub integer_checked : PartReading → (Query → AnswerKind) → Environment → TypeName → RangeTree → Result (Environment × Option DeclarationTree) Fault
integer_checked R t h n range =
    finished (inside_type h n) (integer_declared h.progress n (type_duplicate t h.scope n) (range_read R (type_begun h.scope n) range))

-- the type's name may not be overloaded, its literals may
abbrev pub enumeration_checked : (Query → AnswerKind) → Environment → TypeName → List DefiningName → Result (Environment × Option DeclarationTree) Fault
enumeration_checked t h n literals =
    finished (inside_type h n) (enumeration_declared h.progress n (enumeration_duplicate t h.scope n literals) literals)

abbrev pub array_checked : PartReading → (Query → AnswerKind) → Environment → TypeName → ArrayTree → Result (Environment × Option DeclarationTree) Fault
array_checked R t h n array =
    let place = type_begun h.scope n in
    finished (inside_type h n) (array_declared h.progress n (type_duplicate t h.scope n) (R.index place array.index) (R.indication place array.component))

-- a private type whose values take so many words
abbrev pub private_checked : (Query → AnswerKind) → Environment → TypeName → ℕ → Result (Environment × Option DeclarationTree) Fault
private_checked t h n words = finished (inside_type h n) (private_declared h.progress n (type_duplicate t h.scope n) words)

-- ---- objects

abbrev pub anonymous_array : SubtypeView × SubtypeView → ObjectType
anonymous_array s = object_types.AnonymousArray s.0 s.1

abbrev pub type_read : PartReading → Place → ObjectTypeTree → Result ObjectType Fault
type_read R place (NamedType s) = map_ok object_types.Marked (R.indication place s)
type_read R place (AnonymousArray a) = map_ok anonymous_array (both (R.index place a.index) (R.indication place a.component))

-- the value of objects, at the subtype of the first
abbrev pub first_read : PartReading → Place → List NewObject → ExpressionTree → Option (Result TypedTree Fault)
first_read R place [] e = None
first_read R place (o ∷ os) e = Some (R.value place o.subtype e)

-- of a faulty type it isn't read
abbrev pub value_read : PartReading → Place → Result (List NewObject) Fault → Option ExpressionTree → Option (Result TypedTree Fault)
value_read R place objects None = None
value_read R place (Err f) (Some e) = Some (Err f)
value_read R place (Ok os) (Some e) = first_read R place os e

abbrev pub objects_read : PartReading → Environment → List DefiningName → ObjectTypeTree → Result (List NewObject) Fault
objects_read R h names type = next (type_read R (begun h.scope names) type) (λ (of : ObjectType). new_objects h.progress of names)

-- names : [constant] type [:= value], whose first token is on that line
abbrev pub objects_checked : PartReading → (Query → AnswerKind) → Environment → ℕ → List DefiningName → Bool → ObjectTypeTree → Option ExpressionTree → Result (Environment × Option DeclarationTree) Fault
objects_checked R t h line names constant type initial =
    let objects = objects_read R h names type in
    finished (inside h names)
    (objects_declared (with_all_counted h.progress (names_of names)) line constant (duplicates t h.scope OfComponent names) names objects
    (value_read R (begun h.scope names) objects initial))
