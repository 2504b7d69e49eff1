use Rattle.std.proofs.Common.{◌≡◌, ◌≤◌}
use Rattle.al_overload.specs.Universal.{is_universal}
use Rattle.al_overload.specs.TermViews.{term_model}
use Rattle.al_overload.specs.declared.heads_term.Term.{size-Term}
use Rattle.al_overload_nodes.proofs.determined.+is_universal.Given as goal

abbrev pub invariant-loop-rest : goal.invariant-loop-rest
invariant-loop-rest l = (is_universal (term_model l.rest) ≡ is_universal (term_model l.fn.term)) × (size-Term l.rest ≤ size-Term l.fn.term)
