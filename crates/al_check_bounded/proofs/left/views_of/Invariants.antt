use Rattle.std.proofs.Common.{◌≡◌, map, take}
use Rattle.al_check_bounded.proofs.left.views_of.Given as goal

abbrev pub invariant-loop-completion : goal.invariant-loop-completion
invariant-loop-completion l = l.views ≡ map (λ c. c.view) (take l.completion-index l.completions)
