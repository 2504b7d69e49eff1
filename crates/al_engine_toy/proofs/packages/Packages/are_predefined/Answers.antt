use Rattle.al_engine_toy.proofs.Predefined.{are_predefined}
use Rattle.al_engine_toy.proofs.packages.Packages.are_predefined.Goals as goal

pub returns : goal.returns
returns c = are_predefined
