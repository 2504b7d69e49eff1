-- What is right, or the first rule that it breaks.
use Rattle.std.specs.Prelude.{Option, Some, None, Result, Ok, Err}
use Rattle.al_base_fault.specs.declared.fault.Fault.{Fault}
use Rattle.al_base_fault.specs.Faults.{first}

-- two things that are judged each by itself
abbrev pub both : {A B : Type 0} → Result A Fault → Result B Fault → Result (A × B) Fault
both (Ok a) (Ok b) = Ok (a, b)
both (Ok a) (Err g) = Err g
both (Err f) (Ok b) = Err f
both (Err f) (Err g) = Err (first f g)

-- one more rule, which may be broken
abbrev pub unless : {A : Type 0} → Option Fault → Result A Fault → Result A Fault
unless None checked = checked
unless (Some f) (Ok a) = Err f
unless (Some f) (Err g) = Err (first f g)

-- what is judged only if something else is right
abbrev pub next : {A B : Type 0} → Result A Fault → (A → Result B Fault) → Result B Fault
next (Ok a) f = f a
next (Err g) f = Err g

-- what is right, by another view of it
abbrev pub map_ok : {A B : Type 0} → (A → B) → Result A Fault → Result B Fault
map_ok see (Ok a) = Ok (see a)
map_ok see (Err g) = Err g

-- what is wrong with something that may be right
abbrev pub fault_in : {A : Type 0} → Result A Fault → Option Fault
fault_in (Ok a) = None
fault_in (Err f) = Some f
