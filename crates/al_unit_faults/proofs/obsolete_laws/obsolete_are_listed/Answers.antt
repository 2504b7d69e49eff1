use Rattle.al_unit_faults.proofs.ListLaws.{obsolete_are_listed, obsolete_ascend}
use Rattle.al_unit_faults.proofs.obsolete_laws.obsolete_are_listed.Goals as goal

pub returns-clause-listed : goal.returns-clause-listed
returns-clause-listed c = obsolete_are_listed

pub returns-clause-ascend : goal.returns-clause-ascend
returns-clause-ascend c = obsolete_ascend
