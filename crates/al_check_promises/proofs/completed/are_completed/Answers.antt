use Rattle.std.proofs.Common.{◌∙◌}
use Rattle.al_check_promises.proofs.Joined.{all_alike}
use Rattle.al_check_promises.proofs.completed.are_completed.Goals as goal

pub returns : goal.returns
returns c = c.views_pass.ensures ∙ all_alike _ _ c.in_ok-completing.ensures _
