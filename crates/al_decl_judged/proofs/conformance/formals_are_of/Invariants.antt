use Rattle.std.proofs.Common.{ℕ, ◌<◌, get_or}
use Rattle.al_view.specs.declared.view.Parameter.{Parameter}
use Rattle.al_decl_judged.specs.declared.specification.Formal.{Formal}
use Rattle.al_decl_judged.specs.Conformance.{FormalIsOf}
use Rattle.al_decl_judged.proofs.conformance.formals_are_of.Given as goal

abbrev pub invariant-loop-i : goal.invariant-loop-i
invariant-loop-i l = (k : ℕ) (d : Formal) (e : Parameter) → k < l.i → FormalIsOf (get_or l.formals k d) (get_or l.parameters k e)
