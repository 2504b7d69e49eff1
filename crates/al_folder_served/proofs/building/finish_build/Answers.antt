use Rattle.std.proofs.Common.{sym}
use Rattle.al_folder_served.proofs.building.finish_build.Goals as goal

pub returns-in-Some-clause-saved : goal.returns-in-Some-clause-saved
returns-in-Some-clause-saved g c = rw (sym c.in-Some.ensures) c.use_program.ensures.saved

pub returns-in-Some-clause-ran : goal.returns-in-Some-clause-ran
returns-in-Some-clause-ran g c = rw (sym c.in-Some.ensures) c.use_program.ensures.ran
