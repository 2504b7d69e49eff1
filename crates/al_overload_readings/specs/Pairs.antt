-- Two things that each need memory.
use Rattle.std.specs.Prelude.{Result, Ok, Err}
use Rattle.al_base.specs.declared.refusal.NoMemory.{NoMemory}

abbrev pub together : {A B : Type 0} → Result A NoMemory → Result B NoMemory → Result (A × B) NoMemory
together (Ok a) (Ok b) = Ok (a, b)
together (Ok a) (Err e) = Err e
together (Err e) two = Err e
