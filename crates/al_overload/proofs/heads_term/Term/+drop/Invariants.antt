use Rattle.std.proofs.Common.{◌≤◌}
use Rattle.al_overload.specs.declared.heads_term.Term.{size-Term}
use Rattle.al_overload.proofs.heads_term.Term.+drop.Given as goal

abbrev pub invariant-loop-self : goal.invariant-loop-self
invariant-loop-self l = size-Term l.self ≤ size-Term l.initial.self
