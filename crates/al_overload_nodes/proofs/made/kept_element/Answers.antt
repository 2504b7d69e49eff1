use Rattle.al_overload_nodes.proofs.TermKinds.{kept_is}
use Rattle.al_overload_nodes.proofs.made.kept_element.Goals as goal

pub returns : goal.returns
returns c = kept_is _ c.element_of-reading.result c.kept.result c.element_of-reading.ensures c.kept.ensures
