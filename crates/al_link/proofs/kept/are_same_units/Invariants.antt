use Rattle.std.proofs.Common.{◌≡◌, take, map}
use Rattle.al_link.specs.Kept.{kept_model}
use Rattle.al_link.specs.Relinking.{shapes_kept, shapes_left}
use Rattle.al_link.proofs.kept.are_same_units.Given as goal

-- the units so far are as before
abbrev pub invariant-loop-i : goal.invariant-loop-i
invariant-loop-i l = shapes_left (take l.i l.units) ≡ shapes_kept (map kept_model (take l.i l.kept))
