-- The result of a run.
use Rattle.std.specs.Prelude.{ℕ, ◌≡◌, ◌⊎◌, List, Option, Some, None, Result, Ok, Err}
use Rattle.al_base.specs.Files.{Texts}
use Rattle.al_base.specs.declared.refusal.Refusal.{Refusal}
use Rattle.al_base.specs.declared.refusal.Refusal.TheVariants.{NoMemory}
use Rattle.al_session_served.specs.Builds.{Run, run_model}
use Rattle.al_session_served.specs.Library.{LastBuild, run_refusal}
use Rattle.al_session_served.specs.declared.run.RunReport.{RunReport}

-- the image of the last build prints this
abbrev pub IsRunOf : (Texts → List ℕ → ℕ → ℕ → Run → Type 0) → ℕ → ℕ → Option LastBuild → Run → Type 0
IsRunOf runs tick steps None run = ⊥
IsRunOf runs tick steps (Some last) run = runs last.files last.main tick steps run

-- The first refusal that holds; if none does, a run of the last image, or that memory is refused.
abbrev pub AnswersRun : Result RunReport Refusal → (Texts → List ℕ → ℕ → ℕ → Run → Type 0) → ℕ → ℕ → Option LastBuild → Type 0
AnswersRun (Ok ran) runs tick steps built = (run_refusal built ≡ None) × IsRunOf runs tick steps built (run_model ran)
AnswersRun (Err e) runs tick steps built = (run_refusal built ≡ Some e) ⊎ ((run_refusal built ≡ None) × (e ≡ NoMemory))
