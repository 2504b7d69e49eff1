-- The result of the last build, as the code lends it.
use Rattle.std.specs.Prelude.{ℕ, List, map}
use Rattle.al_base.specs.Batch.{finding_of, key_of}
use Rattle.al_bind.specs.Binding.{line_model}
use Rattle.al_session_served.specs.Builds.{BuildResult, Faulty, NoMain, NoBody, NoSubunit, Cycle, TooLarge, Made}
use Rattle.al_session_served.specs.declared.library.Built.{Built}
use Rattle.al_session_served.specs.declared.library.Outcome.{Outcome}
use Rattle.al_session_served.specs.declared.library.Outcome.TheVariants as outcome

abbrev pub outcome_model : Outcome → BuildResult
outcome_model (outcome.Faulty diagnostics) = Faulty (map finding_of diagnostics.now)
outcome_model outcome.NoMain = NoMain
outcome_model (outcome.NoBody name) = NoBody name.now
outcome_model (outcome.NoSubunit name) = NoSubunit name.now
outcome_model (outcome.Cycle lines) = Cycle (map line_model lines.now)
outcome_model (outcome.TooLarge order) = TooLarge (map key_of order.now)
outcome_model (outcome.Made order image) = Made (map key_of order.now) image.now

abbrev pub built_model : Built → List ℕ × BuildResult
built_model b = (b.main.now, outcome_model b.outcome)
