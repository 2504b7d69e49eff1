use Rattle.std.proofs.Common.{◌≡◌, ◌++◌, map, take}
use Rattle.al_check_bounded.proofs.views.add_completions.Given as goal

abbrev pub invariant-loop-completion : goal.invariant-loop-completion
invariant-loop-completion l = l.found.items ≡ l.fn.found.items ++ map (λ c. c.view) (take l.completion-index l.completions)
