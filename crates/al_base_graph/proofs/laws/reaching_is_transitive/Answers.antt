use Rattle.al_base_graph.proofs.ReachLemmas.{Reaches-trans}
use Rattle.al_base_graph.proofs.laws.reaching_is_transitive.Goals as goal

pub returns : goal.returns
returns c = λ g a b d r s. Reaches-trans a b d r s
