-- Parts of an expression that are put into a list: what fails in them, what is wrong, and those that are right.
use Rattle.std.specs.Prelude.{List, [], ◌∷◌, ◌++◌, Option, Some, None, Result, Ok, Err}
use Rattle.al_base_fault.specs.Faults.{earlier}
use Rattle.al_base_fault.specs.declared.fault.Fault.{Fault}

pub record Parts (A : Type 0) : Type 0 where
  pub failure : Option Fault
  pub fault : Option Fault
  pub items : List A

abbrev pub no_parts : {A : Type 0} → Parts A
no_parts = record { failure = None; fault = None; items = [] }

-- one more part, with what fails in it
abbrev pub with_part : {A : Type 0} → Parts A → Option Fault → Result A Fault → Parts A
with_part parts failure (Ok item) = record { failure = earlier parts.failure failure; fault = parts.fault; items = parts.items ++ item ∷ [] }
with_part parts failure (Err fault) = record { failure = earlier parts.failure failure; fault = earlier parts.fault (Some fault); items = parts.items }
