use Rattle.al_view.specs.ViewUses.{link}
use Rattle.al_check_promises.proofs.Gained.{gains_symbol}
use Rattle.al_check_promises.proofs.defines.add_places.Goals as goal

pub loop-place-preserved : goal.loop-place-preserved
loop-place-preserved c =
    gains_symbol (λ p. link c.args.kind p.symbol) c.args.set.now c.loop-place.set c.insert.new.self c.args.places.now c.loop-place.place-index c.place-item.result
    c.loop-place.invariant c.in_ok-insert.ensures c.place-item.is c.loop-place-test.true
