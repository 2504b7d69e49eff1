use Rattle.std.proofs.Common.{◌≡◌, take}
use Rattle.al_decl_judged.proofs.uncompleted.Uncompleted.of.Given as goal

abbrev pub invariant-loop-completion : goal.invariant-loop-completion
invariant-loop-completion l = l.declared.items ≡ take l.completion-index l.completions
