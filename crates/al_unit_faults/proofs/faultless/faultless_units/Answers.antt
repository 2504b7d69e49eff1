use Rattle.std.proofs.Common.{map}
use Rattle.al_unit_faults.specs.FilesSeen.{file_faults_model}
use Rattle.al_unit_faults.proofs.FaultlessLemmas.{lists_faultless}
use Rattle.al_unit_faults.proofs.faultless.faultless_units.Goals as goal

pub returns : goal.returns
returns c = lists_faultless c.args.sources.now (map file_faults_model c.args.faults.now) _ c.requires c.in_ok-units.ensures
