use Rattle.std.proofs.Common.{◌≤◌}
use Rattle.al_overload.specs.declared.term.Term.{size-Term}
use Rattle.al_overload.specs.declared.term.Terms.{size-Terms}
use Rattle.al_overload.proofs.term.+drop_term.Given as goal

abbrev pub invariant-Term::drop-loop-first : goal.invariant-Term::drop-loop-first
invariant-Term::drop-loop-first l = size-Term l.self ≤ size-Term l.initial.self

abbrev pub decreases-Term::drop-loop-first : goal.decreases-Term::drop-loop-first
decreases-Term::drop-loop-first l = size-Term l.self

abbrev pub invariant-Terms::drop-loop-self : goal.invariant-Terms::drop-loop-self
invariant-Terms::drop-loop-self l = size-Terms l.self ≤ size-Terms l.initial.self
