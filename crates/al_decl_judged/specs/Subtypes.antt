-- Declarations of subtypes (ARM 3.2.2).
use Rattle.std.specs.Prelude.{List, [], ◌∷◌, Option, Result}
use Rattle.al_base_fault.specs.declared.fault.Fault.{Fault}
use Rattle.al_base_fault.specs.Judging.{map_ok, unless}
use Rattle.al_view.specs.declared.view.SubtypeView.{SubtypeView}
use Rattle.al_decl_judged.specs.TypeObjects.{subtype_view}
use Rattle.al_decl_judged.specs.TypeDeclarations.{declared_as}
use Rattle.al_decl_judged.specs.Declaring.{DeclaredTree, declares}
use Rattle.al_decl_judged.specs.Progressing.{with_counted}
use Rattle.al_decl_judged.specs.declared.names.DefiningName.{DefiningName}
use Rattle.al_decl_judged.specs.declared.progress.Progress.{Progress}

-- a name for a subtype
abbrev pub subtype_declared : Progress → DefiningName → Option Fault → Result SubtypeView Fault → Result (Progress × DeclaredTree) Fault
subtype_declared p n duplicate of =
    map_ok (λ (s : SubtypeView). (with_counted p n.name, declares (declared_as n.name (subtype_view s) ∷ []))) (unless duplicate of)
