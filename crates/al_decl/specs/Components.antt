-- Components of a record type at a place (ARM 3.8).
use Rattle.std.specs.Prelude.{List, [], ◌∷◌, ◌++◌, fold, map, Option, Result}
use Rattle.al_decl_judged.specs.declared.record.Part.{Part}
use Rattle.al_decl_judged.specs.DefiningNames.{repeated}
use Rattle.al_decl_judged.specs.declared.names.DefiningName.{DefiningName}
use Rattle.al_decl.specs.Declaring.{begun, duplicates}
use Rattle.al_decl.specs.Inner.{made_visible}
use Rattle.al_decl.specs.Defining.{defining_names}
use Rattle.al_base_fault.specs.Faults.{earlier}
use Rattle.al_base_fault.specs.Judging.{both, map_ok, unless}
use Rattle.al_base_fault.specs.declared.fault.Fault.{Fault}
use Rattle.al_decl.specs.PartReadings.{PartReading}
use Rattle.al_query.specs.declared.answer.AnswerKind.{AnswerKind}
use Rattle.al_query.specs.declared.query.Query.{Query}
use Rattle.al_scope.specs.Places.{Place}
use Rattle.al_tree_syntax.specs.DeclarationTrees.{ComponentTree, ComponentsTree}
use Rattle.al_tree_syntax.specs.DeclarationTrees.ComponentsTree.{NullComponents, SomeComponents}
use Rattle.al_view.specs.declared.view.SubtypeView.{SubtypeView}
use Rattle.al_view.specs.declared.view.ViewKind.TheVariants.{OfComponent}

abbrev pub part : SubtypeView → DefiningName → Part
part of n = record { name = n.name; of = of }

-- a component of the record has the name already, or it is there twice in its list
abbrev pub names_fault : (Query → AnswerKind) → Place → List DefiningName → Option Fault
names_fault t place names = earlier (duplicates t place OfComponent names) (repeated [] names)

-- the names of one list have one subtype, which is read where they are begun
abbrev pub named_parts : PartReading → (Query → AnswerKind) → Place → ComponentTree → List DefiningName → Result (List Part) Fault
named_parts R t place c names =
    unless (names_fault t place names) (map_ok (λ (of : SubtypeView). map (part of) names) (R.indication (begun place names) c.subtype))

abbrev pub component_parts : PartReading → (Query → AnswerKind) → Place → ComponentTree → Result (List Part) Fault
component_parts R t place c = named_parts R t place c (defining_names c.names)

-- after it they are visible, without a value
abbrev pub after_component : Place → ComponentTree → Place
after_component place c = made_visible (begun place (defining_names c.names)) (defining_names c.names)

abbrev pub after_components : Place → List ComponentTree → Place
after_components place cs = fold after_component place cs

-- parts after others; the first fault of either
abbrev pub parts_of_both : Result (List Part) Fault → Result (List Part) Fault → Result (List Part) Fault
parts_of_both a b = map_ok (λ (p : List Part × List Part). p.0 ++ p.1) (both a b)

-- what is found so far, and then one list more at a time, each after those before it
abbrev pub parts_after : PartReading → (Query → AnswerKind) → Place → Result (List Part) Fault → List ComponentTree → Result (List Part) Fault
parts_after R t place so_far [] = so_far
parts_after R t place so_far (c ∷ cs) = parts_after R t (after_component place c) (parts_of_both so_far (component_parts R t place c)) cs

abbrev pub component_list : ComponentsTree → List ComponentTree
component_list NullComponents = []
component_list (SomeComponents c cs) = c ∷ cs
