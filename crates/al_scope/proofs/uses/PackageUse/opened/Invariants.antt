use Rattle.std.proofs.Common.{◌≡◌, filter, take}
use Rattle.al_scope.specs.UseClauses.{opens}
use Rattle.al_scope.proofs.uses.PackageUse.opened.Given as goal

abbrev pub invariant-loop-view : goal.invariant-loop-view
invariant-loop-view l = l.opened ≡ filter (opens l.self) (take l.view-index l.view-items)
