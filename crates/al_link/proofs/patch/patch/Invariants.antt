use Rattle.std.proofs.Common.{◌≡◌, drop}
use Rattle.al_link.specs.Linking.{patched}
use Rattle.al_link.proofs.patch.patch.Given as goal

abbrev pub invariant-loop-one : goal.invariant-loop-one
invariant-loop-one l = patched l.places l.from l.base l.code (drop l.one-index l.uses) ≡ patched l.places l.from l.base l.initial.code l.uses
