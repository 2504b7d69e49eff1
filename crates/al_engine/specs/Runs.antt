-- The answer to a run of the last build.
use Rattle.std.specs.Prelude.{ℕ, ◌≡◌, ◌⊎◌, Option, Result, Ok, Err}
use Rattle.al_base.specs.declared.refusal.Refusal.{Refusal}
use Rattle.al_base.specs.declared.refusal.Refusal.TheVariants.{NoMemory}
use Rattle.al_engine.specs.Programs.{image_in}
use Rattle.al_engine.specs.declared.compiled.Program.{Program}
use Rattle.al_engine.specs.Gave.{program_of}
use Rattle.al_tasks.specs.WorldRuns.{run_of, run_model}
use Rattle.al_tasks.specs.declared.running.RunReport.{RunReport}
use Rattle.al_engine.specs.Reports.{reported}
use Rattle.al_engine.specs.States.{Built}

-- the run of the image that the last build gave; or why there is none; or that memory ran out
abbrev pub AnswersRun : Result RunReport Refusal → Option Built → ℕ → ℕ → Type 0
AnswersRun (Ok ran) built tick steps = (program : Program) × (reported program_of built ≡ Ok program) × (run_model ran ≡ run_of (image_in program) tick steps)
AnswersRun (Err e) built tick steps = (reported program_of built ≡ Err e) ⊎ ((program : Program) × (reported program_of built ≡ Ok program) × (e ≡ NoMemory))
