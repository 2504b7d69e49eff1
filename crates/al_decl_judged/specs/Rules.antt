-- What is judged, put together.
use Rattle.std.specs.Prelude.{Option, Some, None, Result, Ok, Err}
use Rattle.al_base_fault.specs.declared.fault.Fault.{Fault}
use Rattle.al_base_fault.specs.Judging.{map_ok}

-- what may be left out, and is checked if it is there
abbrev pub optional : {A : Type 0} → Option (Result A Fault) → Result (Option A) Fault
optional None = Ok None
optional (Some checked) = map_ok Some checked
