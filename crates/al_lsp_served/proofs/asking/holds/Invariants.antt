use Rattle.std.proofs.Common.{◌≡◌, length}
use Rattle.al_lsp_served.specs.Asked.{holds}
use Rattle.al_lsp_served.proofs.asking.holds.Given as goal

abbrev pub invariant-loop-rest : goal.invariant-loop-rest
invariant-loop-rest l = holds l.name l.word ≡ holds l.rest l.word

abbrev pub decreases-loop-rest : goal.decreases-loop-rest
decreases-loop-rest l = length l.rest
