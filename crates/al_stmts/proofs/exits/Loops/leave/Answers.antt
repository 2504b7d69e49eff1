-- The last one of the list is the innermost one.
use Rattle.std.proofs.Common.{arith, ap, ◌∙◌}
use Rattle.al_stmts.specs.Exits.{without_innermost}
use Rattle.al_stmts.proofs.LoopLemmas.{innermost_taken}
use Rattle.al_stmts.proofs.exits.Loops.leave.Goals as goal

pub returns : goal.returns
returns c = innermost_taken _ _ c.pop.result c.pop.ensures.items (λ lt. c.pop.ensures.variant.1 (omega arith)) ∙ ap without_innermost c.self.view_is
