use Rattle.al_meaning_code.proofs.Families.{partitions_are_done}
use Rattle.al_meaning_code.proofs.laws.partitions_are_done.Goals as goal

pub returns : goal.returns
returns c = partitions_are_done c.trees_tell_code.ensures
