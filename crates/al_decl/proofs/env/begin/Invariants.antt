use Rattle.std.proofs.Common.{◌≡◌, ◌<◌, length, take}
use Rattle.al_decl.specs.Declaring.{begun}
use Rattle.al_decl.proofs.env.begin.Given as goal

abbrev pub invariant-loop-name : goal.invariant-loop-name
invariant-loop-name l = (l.scope ≡ begun l.fn.scope (take l.name-index l.names)) × (length l.scope.regions ≡ length l.fn.scope.regions)
