use Rattle.al_engine.proofs.Completing.{all_complete}
use Rattle.al_engine.proofs.link_closed_laws.completes.Goals as goal

pub returns : goal.returns
returns c = λ meaning s is main f solves sound parts shows complete. all_complete meaning s is main f solves sound parts complete shows
