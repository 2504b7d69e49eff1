-- The results of a build and a run of the engine, in the types of a session.
use Rattle.std.specs.Prelude.{ℕ, List, map}
use Rattle.al_base.specs.Batch.{finding_of, key_of}
use Rattle.al_bind.specs.Binding.{line_model}
use Rattle.al_bind.specs.declared.binding.BindFault.{BindFault}
use Rattle.al_bind.specs.declared.binding.BindFault.TheVariants.{Lacks, Cycle}
use Rattle.al_bind.specs.declared.lacking.MissingItem.TheVariants.{Main, Body, Subunit}
use Rattle.al_engine.specs.Programs.{bytes_in}
use Rattle.al_engine.specs.declared.compiled.Compiled.{Compiled}
use Rattle.al_engine.specs.declared.compiled.Compiled.TheVariants.{Faulty, Unbound, TooLarge, Made}
use Rattle.al_machine.specs.declared.instruction.Exception as raising
use Rattle.al_machine.specs.declared.instruction.Exception.TheVariants.{Constraint, Program, Storage}
use Rattle.al_tasks.specs.WorldRuns as images
use Rattle.al_tasks.specs.declared.running.RunEnd as image_end
use Rattle.al_tasks.specs.declared.running.RunEnd.TheVariants.{Finished, Idle, Raised, Spent, Stuck}
use Rattle.al_session_served.specs.Builds as adds
use Rattle.al_session_served.specs.declared.run.Exception as exceptions
use Rattle.al_session_served.specs.declared.run.Exception.TheVariants as exception
use Rattle.al_session_served.specs.declared.run.RunEnd as ends
use Rattle.al_session_served.specs.declared.run.RunEnd.TheVariants as ended

-- why there is no order
abbrev pub fault_result : BindFault → adds.BuildResult
fault_result (Lacks Main) = adds.NoMain
fault_result (Lacks (Body name)) = adds.NoBody name
fault_result (Lacks (Subunit name)) = adds.NoSubunit name
fault_result (Cycle lines) = adds.Cycle (map line_model lines.items)

-- the result of compiling
abbrev pub result_of : Compiled → adds.BuildResult
result_of (Faulty diagnostics) = adds.Faulty (map finding_of diagnostics.items)
result_of (Unbound fault) = fault_result fault
result_of (TooLarge order) = adds.TooLarge (map key_of order.items)
result_of (Made program) = adds.Made (map key_of program.order.items) (bytes_in program)

abbrev pub exception_of : raising.Exception → exceptions.Exception
exception_of Constraint = exception.Constraint
exception_of Program = exception.Program
exception_of Storage = exception.Storage

-- how a run ended
abbrev pub end_of : image_end.RunEnd → ends.RunEnd
end_of Finished = ended.Finished
end_of Idle = ended.Idle
end_of Spent = ended.Spent
end_of Stuck = ended.Stuck
end_of (Raised raised unit line) = ended.Raised (exception_of raised) unit line

-- the result of a run
abbrev pub run_told : images.Run → adds.Run
run_told run = record { output = run.0; ended = end_of run.1 }
