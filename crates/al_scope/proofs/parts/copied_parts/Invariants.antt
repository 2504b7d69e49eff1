use Rattle.std.proofs.Common.{◌≡◌, take}
use Rattle.al_scope.proofs.parts.copied_parts.Given as goal

abbrev pub invariant-loop-part : goal.invariant-loop-part
invariant-loop-part l = l.copy ≡ take l.part-index l.parts
