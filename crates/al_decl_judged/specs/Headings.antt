-- What is wrong with a specification (ARM 6.1).
use Rattle.std.specs.Prelude.{ℕ, Bool, true, false, List, [], ◌∷◌, map, fold, Option, Some, None}
use Rattle.al_base_fault.specs.declared.fault.Fault.{Fault}
use Rattle.al_base_fault.specs.Faults.{earlier}
use Rattle.al_base_fault.specs.Judging.{fault_in}
use Rattle.al_decl_judged.specs.LoneBodies.{dotted_name_fault, mode_fault}
use Rattle.al_decl_judged.specs.declared.names.DefiningName.{DefiningName}
use Rattle.al_decl_judged.specs.DefiningNames.{repeated}
use Rattle.al_decl_judged.specs.declared.heading.FormalPart.{FormalPart}
use Rattle.al_decl_judged.specs.declared.heading.Heading.{Heading}
use Rattle.al_decl_judged.specs.declared.heading.ReturnedPart.{ReturnedPart}
use Rattle.al_decl_judged.specs.declared.heading.ReturnedPart.TheVariants.{NoValue, Value}

abbrev pub is_function : ReturnedPart → Bool
is_function NoValue = false
is_function (Value of) = true

-- of a formal: its mode in a function, its mark
abbrev pub formal_fault : Bool → FormalPart → Option Fault
formal_fault of_function f = earlier (mode_fault f.name.place of_function f.mode) (fault_in f.of)

-- the first of all formals
abbrev pub formals_fault : Bool → List FormalPart → Option Fault
formals_fault of_function formals = fold (λ (found : Option Fault) (f : FormalPart). earlier found (formal_fault of_function f)) None formals

abbrev pub returned_fault : ReturnedPart → Option Fault
returned_fault NoValue = None
returned_fault (Value of) = fault_in of

abbrev pub formal_names : List FormalPart → List DefiningName
formal_names formals = map (λ (f : FormalPart). f.name) formals

-- the first of a dotted name, two formals of one name, and those of the formals and the result
abbrev pub heading_fault : Heading → Option Fault
heading_fault h =
    earlier (earlier (dotted_name_fault h.name.place h.is_dotted false) (repeated [] (formal_names h.formals)))
    (earlier (formals_fault (is_function h.returned) h.formals) (returned_fault h.returned))
