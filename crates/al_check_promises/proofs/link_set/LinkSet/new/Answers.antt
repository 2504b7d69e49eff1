use Rattle.std.proofs.Common.{refl, ◌∙◌}
use Rattle.al_check_promises.proofs.Gained.{none_yet}
use Rattle.al_check_promises.proofs.link_set.LinkSet.new.Goals as goal

pub returns : goal.returns
returns c = none_yet _ c.new.ensures c.new-2.ensures c.new-3.ensures c.new-4.ensures c.new-5.ensures c.new-6.ensures
