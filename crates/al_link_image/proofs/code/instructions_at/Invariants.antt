use Rattle.std.proofs.Common.{length}
use Rattle.al_link_image.proofs.CodeLemmas.{CodeSoFar}
use Rattle.al_link_image.proofs.code.instructions_at.Given as goal

abbrev pub invariant-instructions : goal.invariant-instructions
invariant-instructions l = CodeSoFar l.fn.bytes l.instructions.items l.rest

abbrev pub decreases-instructions : goal.decreases-instructions
decreases-instructions l = length l.rest
