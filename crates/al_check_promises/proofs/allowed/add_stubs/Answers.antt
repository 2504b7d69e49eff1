use Rattle.al_view.specs.ViewUses.{link}
use Rattle.al_view.specs.declared.link.LinkKind.TheVariants.{Code}
use Rattle.al_check_promises.proofs.Gained.{gains_symbol}
use Rattle.al_check_promises.proofs.allowed.add_stubs.Goals as goal

pub loop-stub-preserved : goal.loop-stub-preserved
loop-stub-preserved c =
    gains_symbol (λ s. link Code s.symbol) c.args.set.now c.loop-stub.set c.insert.new.self c.args.stubs.now c.loop-stub.stub-index c.stub-item.result
    c.loop-stub.invariant c.in_ok-insert.ensures c.stub-item.is c.loop-stub-test.true
