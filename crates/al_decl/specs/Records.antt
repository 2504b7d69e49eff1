-- Declarations of record types at a place (ARM 3.8).
use Rattle.std.specs.Prelude.{[], Option, Result, Ok}
use Rattle.al_decl.specs.Checking.{finished, inside_type}
use Rattle.al_decl_judged.specs.TypeKinds.{record_declared}
use Rattle.al_decl_judged.specs.declared.names.TypeName.{TypeName}
use Rattle.al_decl.specs.Inner.{in_region}
use Rattle.al_decl.specs.TypeNames.{type_begun, type_duplicate}
use Rattle.al_decl.specs.declared.env.Environment.{Environment}
use Rattle.al_base_fault.specs.declared.fault.Fault.{Fault}
use Rattle.al_decl.specs.PartReadings.{PartReading}
use Rattle.al_query.specs.declared.answer.AnswerKind.{AnswerKind}
use Rattle.al_query.specs.declared.query.Query.{Query}
use Rattle.al_tree_syntax.specs.DeclarationTrees.{ComponentsTree}
use Rattle.al_view_typed.specs.DeclarationTrees.{DeclarationTree}
use Rattle.al_decl.specs.Components.{component_list, parts_after}

-- type N is record components end record: they are in a region of their own, in which N is begun
abbrev pub record_checked : PartReading → (Query → AnswerKind) → Environment → TypeName → ComponentsTree → Result (Environment × Option DeclarationTree) Fault
record_checked R t h n components =
    finished (inside_type h n)
    (record_declared h.progress n (type_duplicate t h.scope n) (parts_after R t (in_region (type_begun h.scope n)) (Ok []) (component_list components)))

-- type N is null record
abbrev pub null_record_checked : (Query → AnswerKind) → Environment → TypeName → Result (Environment × Option DeclarationTree) Fault
null_record_checked t h n = finished (inside_type h n) (record_declared h.progress n (type_duplicate t h.scope n) (Ok []))
