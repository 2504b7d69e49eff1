use Rattle.al_overload_nodes.proofs.TermKinds.{kept_is}
use Rattle.al_overload_nodes.proofs.made.kept_short_circuit.Goals as goal

pub returns : goal.returns
returns c = kept_is _ c.short_circuit_of-reading.result c.kept.result c.short_circuit_of-reading.ensures c.kept.ensures
