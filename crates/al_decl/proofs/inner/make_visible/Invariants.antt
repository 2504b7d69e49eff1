use Rattle.std.proofs.Common.{◌≡◌, length, take}
use Rattle.al_decl.specs.Inner.{made_visible}
use Rattle.al_decl.proofs.inner.make_visible.Given as goal

abbrev pub invariant-loop-name : goal.invariant-loop-name
invariant-loop-name l = (l.scope ≡ made_visible l.fn.scope (take l.name-index l.names)) × (length l.scope.regions ≡ length l.fn.scope.regions)
