use Rattle.al_unit_faults.proofs.ObsoleteUnitLemmas.{units_are_held}
use Rattle.al_unit_faults.proofs.obsolete_laws.units_are_held.Goals as goal

pub returns : goal.returns
returns c = units_are_held
