use Rattle.std.proofs.Common.{arith, ◌∙◌}
use Rattle.al_decl.specs.Inner.{one_visible}
use Rattle.al_decl.proofs.Folds.{folded}
use Rattle.al_decl.proofs.inner.make_visible.Goals as goal

pub loop-name-preserved : goal.loop-name-preserved
loop-name-preserved c =
    let i = c.loop-name.invariant in
    (folded one_visible c.args.scope.now c.loop-name.scope c.make_one_visible.new.scope c.args.names.now c.loop-name.name-index c.name-item.result (omega arith) c.name-item.is i.0 c.in_ok-make_one_visible.ensures.made, c.make_one_visible.ensures.depth ∙ i.1)
