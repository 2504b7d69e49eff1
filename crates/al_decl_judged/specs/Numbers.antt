-- Number declarations (ARM 3.3.2).
use Rattle.std.specs.Prelude.{List, [], map, Option, Result}
use Rattle.al_base_fault.specs.declared.fault.Fault.{Fault}
use Rattle.al_base_fault.specs.Faults.{earlier}
use Rattle.al_base_fault.specs.Judging.{map_ok, unless}
use Rattle.al_view.specs.declared.types.StaticValue.{StaticValue}
use Rattle.al_decl_judged.specs.declared.declaration.Declaration.{Declaration}
use Rattle.al_decl_judged.specs.TypeObjects.{number_view}
use Rattle.al_decl_judged.specs.TypeDeclarations.{declared_as}
use Rattle.al_decl_judged.specs.Declaring.{DeclaredTree, declares}
use Rattle.al_decl_judged.specs.DefiningNames.{names_of, repeated}
use Rattle.al_decl_judged.specs.Progressing.{with_all_counted}
use Rattle.al_decl_judged.specs.declared.names.DefiningName.{DefiningName}
use Rattle.al_decl_judged.specs.declared.progress.Progress.{Progress}

-- each name is one for the value
abbrev pub number_declarations : StaticValue → List DefiningName → List Declaration
number_declarations value names = map (λ n. declared_as n.name (number_view value)) names

abbrev pub numbers_declared : Progress → List DefiningName → Option Fault → Result StaticValue Fault → Result (Progress × DeclaredTree) Fault
numbers_declared p names duplicate value =
    map_ok (λ (v : StaticValue). (with_all_counted p (names_of names), declares (number_declarations v names))) (unless (earlier duplicate (repeated [] names)) value)
