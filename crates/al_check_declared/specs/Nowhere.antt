-- The error outside of all regions, and of a function's value outside of any function.
use Rattle.al_base_fault.specs.declared.check_rule.CheckRule.TheVariants.{NotYet}
use Rattle.al_base_fault.specs.Faults.{fault_at}
use Rattle.al_base_fault.specs.declared.fault.Fault.{Fault}

abbrev pub not_yet_fault : Fault
not_yet_fault = fault_at (record { line = 1; col = 1 }) NotYet
