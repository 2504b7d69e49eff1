use Rattle.std.proofs.Common.{◌∙◌}
use Rattle.al_check_promises.proofs.Joined.{all_alike, nothing_completed}
use Rattle.al_check_promises.proofs.completed.leave_nothing.Goals as goal

pub returns : goal.returns
returns c = c.completions_pass.ensures ∙ all_alike _ _ (nothing_completed _ c.new.ensures) _
