use Rattle.al_engine_refresh.specs.Builds.{results_of}
use Rattle.al_engine.proofs.rebuild_laws.rebuilds_are_compiled.Goals as goal

pub returns : goal.returns
returns c = λ meaning header predefined lib main old new rebuilt is. record { outcomes = results_of is.made; solves = is.rechecked.solves; is_batch = is.is_batch }
