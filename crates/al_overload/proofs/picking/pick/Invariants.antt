use Rattle.std.proofs.Common.{◌≡◌, drop}
use Rattle.al_overload.specs.Picks.{pick}
use Rattle.al_overload.proofs.picking.pick.Given as goal

abbrev pub invariant-loop-view : goal.invariant-loop-view
invariant-loop-view l = pick l.left (drop l.view-index l.visible) ≡ pick l.fn.number l.visible
