use Rattle.std.proofs.Common.{◌≡◌, take}
use Rattle.al_code.specs.Written.{leaves_outside}
use Rattle.al_code.proofs.filling.others.Given as goal

abbrev pub invariant-loop-leave : goal.invariant-loop-leave
invariant-loop-leave l = l.kept.items ≡ leaves_outside l.construct (take l.leave-index l.leaving)
