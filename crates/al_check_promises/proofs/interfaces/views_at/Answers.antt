use Rattle.al_check_promises.proofs.Items.{no_views, some_views}
use Rattle.al_check_promises.proofs.interfaces.views_at.Goals as goal

pub returns-in-Some : goal.returns-in-Some
returns-in-Some c = λ e. let h = rw c.in-Some.is at c.at.ensures in some_views c.args.interface.now c.args.i e _ _ c.requires h

pub returns-in-None : goal.returns-in-None
returns-in-None c = λ e. let h = rw c.in-None.is at c.at.ensures in absurd (no_views c.args.interface.now c.args.i e c.requires h)
