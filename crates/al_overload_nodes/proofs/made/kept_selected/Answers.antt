use Rattle.al_overload_nodes.proofs.TermKinds.{kept_is}
use Rattle.al_overload_nodes.proofs.made.kept_selected.Goals as goal

pub returns : goal.returns
returns c = kept_is _ c.selected_of-reading.result c.kept.result c.selected_of-reading.ensures c.kept.ensures
