-- One declaration as it is written, at its place (ARM 3.2.1, 3.2.2, 3.3.1, 3.3.2).
use Rattle.std.specs.Prelude.{ℕ, List, Option, Some, None, Result, Err, unwrap_or}
use Rattle.al_base_fault.specs.declared.check_rule.CheckRule.TheVariants.{NotAllowedHere}
use Rattle.al_decl.specs.Forms.{array_checked, enumeration_checked, integer_checked, number_checked, objects_checked, private_checked, subtype_checked}
use Rattle.al_decl.specs.Records.{null_record_checked, record_checked}
use Rattle.al_decl_judged.specs.declared.names.DefiningName.{DefiningName}
use Rattle.al_decl_judged.specs.declared.names.TypeName.{TypeName}
use Rattle.al_decl.specs.Declaring.{duplicate}
use Rattle.al_decl.specs.TypeNames.{type_name}
use Rattle.al_decl.specs.declared.env.Environment.{Environment}
use Rattle.al_decl.specs.Defining.{defined, defining_names}
use Rattle.al_base_fault.specs.Faults.{fault_at}
use Rattle.al_base_fault.specs.declared.fault.Fault.{Fault}
use Rattle.al_decl.specs.PartReadings.{PartReading}
use Rattle.al_query.specs.declared.answer.AnswerKind.{AnswerKind}
use Rattle.al_query.specs.declared.query.Query.{Query}
use Rattle.al_tree_syntax.specs.DeclarationTrees.{ObjectFormTree, ObjectTree, SubtypeTree, TypeDefinitionTree, TypeTree}
use Rattle.al_tree_syntax.specs.DeclarationTrees.ObjectFormTree.{TypedObject, NamedNumber}
use Rattle.al_tree_syntax.specs.DeclarationTrees.TypeDefinitionTree.{IntegerDefinition, NullRecordDefinition, PrivateDefinition, EnumerationDefinition, ArrayDefinition, RecordDefinition}
use Rattle.al_view.specs.declared.view.ViewKind.TheVariants.{OfComponent}
use Rattle.al_view_typed.specs.DeclarationTrees.{DeclarationTree}

abbrev pub form_checked : PartReading → (Query → AnswerKind) → Environment → ℕ → List DefiningName → ObjectFormTree → Result (Environment × Option DeclarationTree) Fault
form_checked R t h line names (TypedObject constant type initial) = objects_checked R t h line names constant type initial
form_checked R t h line names (NamedNumber value) = number_checked R t h names value

-- the first token is the first name
abbrev pub object_checked : PartReading → (Query → AnswerKind) → Environment → ObjectTree → Result (Environment × Option DeclarationTree) Fault
object_checked R t h o = form_checked R t h o.names.first.line (defining_names o.names) o.form

-- a name that may not be declared here: it is taken, or it isn't allowed
abbrev pub refused : Option Fault → DefiningName → Fault
refused duplicate n = unwrap_or duplicate (fault_at n.place NotAllowedHere)

-- a private type is allowed only in the visible part of a package (ARM 7.3(4))
abbrev pub private_fault : (Query → AnswerKind) → Environment → DefiningName → Fault
private_fault t h n = refused (duplicate t h.scope OfComponent n) n

-- where it is allowed, with the words of its values
abbrev pub private_item : (Query → AnswerKind) → Environment → TypeName → Option ℕ → Result (Environment × Option DeclarationTree) Fault
private_item t h n (Some words) = private_checked t h n words
private_item t h n None = Err (private_fault t h n.defining)

abbrev pub definition_checked : PartReading → (Query → AnswerKind) → Environment → Option ℕ → TypeName → TypeDefinitionTree → Result (Environment × Option DeclarationTree) Fault
definition_checked R t h words n (IntegerDefinition range) = integer_checked R t h n range
definition_checked R t h words n NullRecordDefinition = null_record_checked t h n
definition_checked R t h words n (PrivateDefinition place) = private_item t h n words
definition_checked R t h words n (EnumerationDefinition opening literals) = enumeration_checked t h n (defining_names literals)
definition_checked R t h words n (ArrayDefinition array) = array_checked R t h n array
definition_checked R t h words n (RecordDefinition components end) = record_checked R t h n components

-- the words of a private type are given where one is allowed
abbrev pub type_checked : PartReading → (Query → AnswerKind) → Environment → Option ℕ → TypeTree → Result (Environment × Option DeclarationTree) Fault
type_checked R t h words d = definition_checked R t h words (type_name h (defined d.name)) d.definition

abbrev pub subtype_item_checked : PartReading → (Query → AnswerKind) → Environment → SubtypeTree → Result (Environment × Option DeclarationTree) Fault
subtype_item_checked R t h s = subtype_checked R t h (defined s.name) s.indication
