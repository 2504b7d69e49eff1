use Rattle.std.proofs.Common.{rules}
use Rattle.al_view.proofs.HomographLemmas.{homographs-Decides}
use Rattle.al_view.proofs.view.View.is_homograph_of.Goals as goal

pub returns-clause-exactly : goal.returns-clause-exactly
returns-clause-exactly c = search (rules, homographs-Decides c.args.self.now c.args.other.now)
