use Rattle.al_unit_header.proofs.BodyLaws as laws
use Rattle.al_unit_header.proofs.laws.bodies_are_needed.Goals as goal

pub returns : goal.returns
returns c = laws.bodies_are_needed
