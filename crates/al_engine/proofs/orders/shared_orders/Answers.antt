use Rattle.std.proofs.Common.{◌≡◌, ◌∙◌, List, [], map, ap, sym, subst}
use Rattle.std.proofs.lemmas.List.{take_all}
use Rattle.al_engine.specs.Graphs.{AreElaborations}
use Rattle.al_engine.specs.declared.orders.KnownOrder.{KnownOrder}
use Rattle.al_engine.proofs.Taken.{no_orders}
use Rattle.al_engine.proofs.orders.shared_orders.Goals as goal

pub returns : goal.returns
returns c = λ lib are.
    let all : map (λ o. o.value) c.loop-known.shared.items ≡ map (λ o. o.value) c.args.orders.now =
    c.loop-known.invariant ∙ ap (map (λ o. o.value)) (take_all c.loop-known.known-index c.args.orders.now c.loop-known-test.false) in
    subst (AreElaborations lib) (sym all) are
