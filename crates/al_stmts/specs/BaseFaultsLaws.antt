-- Which faults end a list.
use Rattle.std.specs.Prelude.{◌≡◌, List, [], ◌∷◌, ◌++◌, Option, Some, None}
use Rattle.al_base_fault.specs.declared.fault.Fault.{Fault}
use Rattle.al_stmts.specs.declared.fault_list.FaultList.{FaultList}
use Rattle.al_stmts.specs.FaultLists.{all_faults, followed, no_fault, of_declaration, of_statement}

-- after a faulty statement the list goes on
abbrev pub StatementsEndNoList : Type 0
StatementsEndNoList = (f : Fault) (after : FaultList) → all_faults (followed (of_statement (Some f)) after) ≡ f ∷ all_faults after

-- after a faulty declaration nothing is reported
abbrev pub DeclarationsEndTheList : Type 0
DeclarationsEndTheList = (before : FaultList) (f : Fault) (after : FaultList) → followed (followed before (of_declaration (Some f))) after ≡ followed before (of_declaration (Some f))

-- the faults are the same wherever the source is divided
abbrev pub PartsFollow : Type 0
PartsFollow = (a b c : FaultList) → followed (followed a b) c ≡ followed a (followed b c)
