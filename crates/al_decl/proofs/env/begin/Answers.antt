use Rattle.std.proofs.Common.{arith, ◌∙◌}
use Rattle.al_decl.specs.Declaring.{begun_one}
use Rattle.al_decl.proofs.Folds.{folded}
use Rattle.al_decl.proofs.env.begin.Goals as goal

pub loop-name-preserved : goal.loop-name-preserved
loop-name-preserved c =
    let i = c.loop-name.invariant in
    (folded begun_one c.args.scope.now c.loop-name.scope c.begin_one.new.scope c.args.names.now c.loop-name.name-index c.name-item.result (omega arith) c.name-item.is i.0 c.in_ok-begin_one.ensures.begun, c.begin_one.ensures.depth ∙ i.1)
