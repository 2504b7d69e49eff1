use Rattle.std.proofs.Common.{◌<◌, IfSome, length}
use Rattle.al_lsp_served.proofs.locating.last_slash.Given as goal

abbrev pub invariant-loop-i : goal.invariant-loop-i
invariant-loop-i l = IfSome l.found (λ i. i < length l.path)
