use Rattle.std.proofs.Common.{◌≡◌, take}
use Rattle.al_view.proofs.same_views.InterfaceSame.is_same.Given as goal

-- the names so far are the same, with the same views
abbrev pub invariant-loop-i : goal.invariant-loop-i
invariant-loop-i l = take l.i l.self ≡ take l.i l.other
