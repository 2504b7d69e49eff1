-- The components that are found so far.
use Rattle.std.specs.Prelude.{List, Result, Ok}
use Rattle.al_decl.specs.declared.components.ComponentList.{ComponentList}
use Rattle.al_decl_judged.specs.declared.record.Part.{Part}
use Rattle.al_base_fault.specs.Judging.{unless}
use Rattle.al_base_fault.specs.declared.fault.Fault.{Fault}

-- all of them, or the first rule that one breaks
abbrev pub found_model : ComponentList → Result (List Part) Fault
found_model f = unless f.fault (Ok f.parts)
