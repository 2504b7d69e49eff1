use Rattle.std.proofs.Common.{◌≡◌, map, take}
use Rattle.al_engine.proofs.orders.shared_orders.Given as goal

abbrev pub invariant-loop-known : goal.invariant-loop-known
invariant-loop-known l = map (λ o. o.value) l.shared.items ≡ map (λ o. o.value) (take l.known-index l.orders)
