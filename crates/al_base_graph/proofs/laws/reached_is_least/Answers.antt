use Rattle.std.proofs.Common.{IsTrue}
use Rattle.al_base_graph.proofs.ReachLemmas.{reached_start, reached_step, least}
use Rattle.al_base_graph.proofs.laws.reached_is_least.Goals as goal

pub returns-clause-starts : goal.returns-clause-starts
returns-clause-starts c = reached_start

pub returns-clause-steps : goal.returns-clause-steps
returns-clause-steps c = reached_step

pub returns-clause-least : goal.returns-clause-least
returns-clause-least c = λ g starts held holds a r. least g r.0 a (λ b. IsTrue (held b)) holds.1 (holds.0 r.0 r.1) r.2
