use Rattle.std.proofs.Common.{◌∷◌, []}
use Rattle.std.specs.Prelude.{codes}
use Rattle.al_folder_served.proofs.image_files.save.Goals as goal

pub returns-in-Some-clause-refused : goal.returns-in-Some-clause-refused
returns-in-Some-clause-refused g c = λ not. (c.in-Some.why.now ∷ [], c.tell_refused.ensures.told)

pub returns-in_ok-tell_fault-in-Err-clause-refused : goal.returns-in_ok-tell_fault-in-Err-clause-refused
returns-in_ok-tell_fault-in-Err-clause-refused g c = λ not. (codes " can't be written: " ∷ c.in_ok-tell_fault-in-Err.ensures.told.0 ∷ [], c.in_ok-tell_fault-in-Err.ensures.told.1)
