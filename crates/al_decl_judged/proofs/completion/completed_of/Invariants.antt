use Rattle.std.specs.List.{AllWithin}
use Rattle.al_decl_judged.specs.Completing.{Completes}
use Rattle.al_decl_judged.proofs.completion.completed_of.Given as goal

abbrev pub invariant-loop-i : goal.invariant-loop-i
invariant-loop-i l = AllWithin (λ c. Completes l.name l.head c → ⊥) l.declared 0 l.i
