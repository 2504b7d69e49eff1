use Rattle.std.proofs.Common.{map, take}
use Rattle.al_view.specs.ViewUses.{link}
use Rattle.al_check_promises.specs.Links.{Gains}
use Rattle.al_check_promises.proofs.defines.add_places.Given as goal

abbrev pub invariant-loop-place : goal.invariant-loop-place
invariant-loop-place l = Gains l.initial.set l.set (map (λ p. link l.kind p.symbol) (take l.place-index l.places))
