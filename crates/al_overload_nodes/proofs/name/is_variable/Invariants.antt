use Rattle.std.proofs.Common.{◌≡◌}
use Rattle.al_overload_nodes.specs.Names.{is_variable}
use Rattle.al_overload.specs.TermViews.{term_model}
use Rattle.al_overload_nodes.proofs.name.is_variable.Given as goal

abbrev pub invariant-loop-rest : goal.invariant-loop-rest
invariant-loop-rest l = is_variable (term_model l.rest) ≡ is_variable (term_model l.term)
