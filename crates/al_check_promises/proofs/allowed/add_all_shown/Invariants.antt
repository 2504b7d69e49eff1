use Rattle.std.proofs.Common.{take}
use Rattle.std.specs.List.{flat_map}
use Rattle.al_view.specs.ViewUses.{view_uses}
use Rattle.al_check_promises.specs.Links.{Gains}
use Rattle.al_check_promises.proofs.allowed.add_all_shown.Given as goal

abbrev pub invariant-loop-view : goal.invariant-loop-view
invariant-loop-view l = Gains l.initial.set l.set (flat_map (view_uses) (take l.view-index l.views))
