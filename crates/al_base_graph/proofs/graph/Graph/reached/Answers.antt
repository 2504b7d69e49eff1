use Rattle.al_base_graph.proofs.FlagLemmas.{both_ways}
use Rattle.al_base_graph.proofs.graph.Graph.reached.Goals as goal

pub returns : goal.returns
returns c =
    (c.in_ok-found.ensures.count, λ a. both_ways (c.in_ok-found.ensures.found.flagged a) (c.in_ok-found.ensures.reached a))
