use Rattle.al_engine.proofs.SamePartitions.{graphs_go_by_headers}
use Rattle.al_engine.proofs.graph_laws.graphs_go_by_headers.Goals as goal

pub returns : goal.returns
returns c = graphs_go_by_headers
