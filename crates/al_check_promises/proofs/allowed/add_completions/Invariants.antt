use Rattle.std.proofs.Common.{take}
use Rattle.std.specs.List.{flat_map}
use Rattle.al_view.specs.ViewUses.{view_uses}
use Rattle.al_check_promises.specs.Links.{Gains}
use Rattle.al_check_promises.proofs.allowed.add_completions.Given as goal

abbrev pub invariant-loop-completion : goal.invariant-loop-completion
invariant-loop-completion l = Gains l.initial.set l.set (flat_map (λ c. view_uses c.view) (take l.completion-index l.completions))
