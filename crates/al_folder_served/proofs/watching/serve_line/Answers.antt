use Rattle.std.proofs.Common.{ap, ◌∙◌}
use Rattle.al_folder_served.specs.Told.{asks_checked}
use Rattle.al_folder_served.specs.UnitReasons.{asks_why}
use Rattle.al_folder_served.proofs.watching.serve_line.Goals as goal

pub returns-in_err-tell_asked-in-Unknown-clause-unknown : goal.returns-in_err-tell_asked-in-Unknown-clause-unknown
returns-in_err-tell_asked-in-Unknown-clause-unknown g c = λ is off unasked. c.tell_asked.ensures.unknown (ap asks_checked c.without_return-in-Unknown.ensures ∙ off) (ap asks_why c.without_return-in-Unknown.ensures ∙ unasked)

pub returns-in-Unknown-clause-unknown : goal.returns-in-Unknown-clause-unknown
returns-in-Unknown-clause-unknown g c = λ is off unasked. c.tell_asked.ensures.unknown (ap asks_checked c.without_return-in-Unknown.ensures ∙ off) (ap asks_why c.without_return-in-Unknown.ensures ∙ unasked)
