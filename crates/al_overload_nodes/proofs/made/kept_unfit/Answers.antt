use Rattle.al_overload_nodes.proofs.TermKinds.{kept_is}
use Rattle.al_overload_nodes.proofs.made.kept_unfit.Goals as goal

pub returns : goal.returns
returns c = kept_is _ c.unfit.result c.kept.result c.unfit.ensures c.kept.ensures
