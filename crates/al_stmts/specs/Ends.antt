-- Names at ends.
use Rattle.std.specs.Prelude.{ℕ, Bool, false, List, Option, Some, None, if◌then◌else◌}
use Rattle.std.specs.Str.{str_eq_ignore_ascii_case}
use Rattle.al_base.specs.declared.place.Place.{Place}
use Rattle.al_base_fault.specs.declared.check_rule.CheckRule.TheVariants.{EndName}
use Rattle.al_base_fault.specs.Faults.{fault_at}
use Rattle.al_base_fault.specs.declared.fault.Fault.{Fault}

-- whether a name at an end is the whole name of what ends there, letters in either case (ARM 2.3(5)); what has no name has
-- none at its end (ARM 5.5(5), 5.6(4), 6.3(4), 7.1(5))
abbrev pub ends : Option (List ℕ) → List ℕ → Bool
ends None spelled = false
ends (Some name) spelled = str_eq_ignore_ascii_case name spelled

-- the fault at the name's first token; if no name is at the end there is none
abbrev pub end_fault : Option (List ℕ) → Option (Place × List ℕ) → Option Fault
end_fault name None = None
end_fault name (Some (place, spelled)) = if ends name spelled then None else Some (fault_at place EndName)
