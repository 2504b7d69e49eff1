use Rattle.std.proofs.Common.{Some, ap, sym, ◌∙◌}
use Rattle.al_view.specs.declared.symbol.Symbol.{Symbol}
use Rattle.al_view.specs.declared.view.ObjectPlace.TheVariants.{Static}
use Rattle.al_check_declared.proofs.Firsts.{barrier_found, barrier_passed, no_barrier}
use Rattle.al_check_declared.proofs.barrier.barrier_among.Goals as goal

pub loop-component-preserved : goal.loop-component-preserved
loop-component-preserved c =
    barrier_passed c.args.object.now c.args.name.now c.args.of.now c.loop-component.word c.args.components.now c.loop-component.component-index c.component-item.result c.word_after-after.result
    c.loop-component-test.true c.component-item.is (sym c.is_barrier.ensures ∙ c.if-is_barrier.false) c.word_after-after.ensures
    ∙ c.loop-component.invariant

pub returns-then-is_barrier : goal.returns-then-is_barrier
returns-then-is_barrier c =
    ap (λ (s : Symbol). Some (Static s c.loop-component.word)) c.in_ok-symbol.ensures
    ∙ barrier_found c.args.object.now c.args.name.now c.args.of.now c.loop-component.word c.args.components.now c.loop-component.component-index c.component-item.result
    c.loop-component-test.true c.component-item.is (sym c.is_barrier.ensures ∙ c.if-is_barrier.true)
    ∙ c.loop-component.invariant

pub returns : goal.returns
returns c =
    no_barrier c.args.object.now c.args.name.now c.args.of.now c.loop-component.word c.args.components.now c.loop-component.component-index c.loop-component-test.false ∙ c.loop-component.invariant
