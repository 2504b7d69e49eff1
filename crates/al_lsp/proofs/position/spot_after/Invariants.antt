use Rattle.std.proofs.Common.{◌≡◌, take}
use Rattle.al_lsp.specs.Positions.{spot_after}
use Rattle.al_lsp.proofs.position.spot_after.Given as goal

abbrev pub invariant-loop-byte : goal.invariant-loop-byte
invariant-loop-byte l = l.spot ≡ spot_after l.counting (take l.byte-index l.text)
