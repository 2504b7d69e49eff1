-- The loop that an exit statement leaves (ARM 5.7).
use Rattle.std.specs.Prelude.{ℕ, Bool, true, false, List, [], ◌∷◌, Option, Some, None, Result, Ok, Err}
use Rattle.std.specs.List.{position}
use Rattle.std.specs.Str.{bytes_eq}
use Rattle.al_base.specs.declared.place.Place.{Place}
use Rattle.al_base_fault.specs.declared.check_rule.CheckRule.TheVariants.{BadExit}
use Rattle.al_base_fault.specs.Faults.{fault_at}
use Rattle.al_base_fault.specs.declared.fault.Fault.{Fault}

-- the loops round a statement, innermost first, each with its name if it has one
abbrev pub EnclosingLoops : Type 0
EnclosingLoops = List (Option (List ℕ))

-- whether an exit statement that has this name, or none, may leave a loop that has that one, or none (ARM 5.7(4, 5))
abbrev pub may_leave : Option (List ℕ) → Option (List ℕ) → Bool
may_leave None loop = true
may_leave (Some name) (Some loop) = bytes_eq name loop
may_leave (Some name) None = false

-- how many loops are between the statement and the loop that it leaves: the innermost one that it may leave
abbrev pub loops_between : EnclosingLoops → Option (List ℕ) → Option ℕ
loops_between loops name = position (may_leave name) loops

-- that, or the fault at the word `exit`
abbrev pub exit_checked : Place → EnclosingLoops → Option (List ℕ) → Result ℕ Fault
exit_checked place loops name = at (loops_between loops name)
  where
    at : Option ℕ → Result ℕ Fault
    at (Some n) = Ok n
    at None = Err (fault_at place BadExit)

-- the loops round a loop
abbrev pub without_innermost : EnclosingLoops → EnclosingLoops
without_innermost [] = []
without_innermost (loop ∷ loops) = loops
