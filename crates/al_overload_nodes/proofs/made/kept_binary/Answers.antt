use Rattle.al_overload_nodes.proofs.TermKinds.{kept_is}
use Rattle.al_overload_nodes.proofs.made.kept_binary.Goals as goal

pub returns : goal.returns
returns c = kept_is _ c.binary_of-reading.result c.kept.result c.binary_of-reading.ensures c.kept.ensures
