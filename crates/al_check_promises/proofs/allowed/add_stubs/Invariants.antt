use Rattle.std.proofs.Common.{map, take}
use Rattle.al_view.specs.ViewUses.{link}
use Rattle.al_view.specs.declared.link.LinkKind.TheVariants.{Code}
use Rattle.al_check_promises.specs.Links.{Gains}
use Rattle.al_check_promises.proofs.allowed.add_stubs.Given as goal

abbrev pub invariant-loop-stub : goal.invariant-loop-stub
invariant-loop-stub l = Gains l.initial.set l.set (map (λ s. link Code s.symbol) (take l.stub-index l.stubs))
