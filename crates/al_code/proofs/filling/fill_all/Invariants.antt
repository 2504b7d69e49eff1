use Rattle.std.proofs.Common.{◌≡◌, drop}
use Rattle.al_code.specs.Written.{all_filled}
use Rattle.al_code.proofs.filling.fill_all.Given as goal

abbrev pub invariant-loop-leave : goal.invariant-loop-leave
invariant-loop-leave l = all_filled l.construct l.end l.code (drop l.leave-index l.leaving) ≡ all_filled l.construct l.end l.initial.code l.leaving
