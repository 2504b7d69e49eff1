use Rattle.al_decl_ada.proofs.Priorities.{no_fault_inside_hides_it}
use Rattle.al_decl_ada.proofs.laws.no_fault_inside_hides_a_priority.Goals as goal

pub returns : goal.returns
returns c = no_fault_inside_hides_it
