-- The words of traces.
use Rattle.std.specs.Prelude.{ℕ, List, codes}
use Rattle.al_machine.specs.declared.instruction.Exception.{Exception}
use Rattle.al_machine.specs.declared.instruction.Exception.TheVariants.{Constraint, Program, Storage}
use Rattle.al_tasks.specs.declared.looking.TaskState.{TaskState}
use Rattle.al_tasks.specs.declared.looking.TaskState.TheVariants.{Running, Ready, Created, Activating, Delayed, Waiting, Ended}

abbrev pub state_word : TaskState → List ℕ
state_word Running = codes "running"
state_word Ready = codes "ready"
state_word Created = codes "created"
state_word Activating = codes "activating"
state_word (Delayed _) = codes "delayed"
state_word (Waiting _) = codes "waiting"
state_word Ended = codes "ended"

abbrev pub exception_word : Exception → List ℕ
exception_word Constraint = codes "constraint_error"
exception_word Program = codes "program_error"
exception_word Storage = codes "storage_error"
