use Rattle.std.proofs.Common.{◌∙◌, ap, ℕ, List}
use Rattle.al_engine_refresh.proofs.entries_laws.current_is_as_checked.Goals as goal

pub returns : goal.returns
returns g meaning header u e keeps text t current = keeps.reads t current.1 ∙ ap (λ (x : List ℕ). meaning u x t) current.0
