use Rattle.al_engine_files.proofs.Known.{are_predefined}
use Rattle.al_engine_files.proofs.query_predefined_laws.units_are_predefined.Goals as goal

pub returns : goal.returns
returns c = are_predefined
