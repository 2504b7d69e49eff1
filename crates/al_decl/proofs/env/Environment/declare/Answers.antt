use Rattle.std.proofs.Common.{arith, ◌∙◌}
use Rattle.al_decl.specs.Declaring.{with_declaration}
use Rattle.al_decl.proofs.Folds.{folded}
use Rattle.al_decl.proofs.env.Environment.declare.Goals as goal

pub loop-declaration-preserved : goal.loop-declaration-preserved
loop-declaration-preserved c =
    let i = c.loop-declaration.invariant in
    (folded with_declaration c.args.self.now c.loop-declaration.self c.declare_one.new.self c.args.declarations.now c.loop-declaration.declaration-index c.declaration-item.result (omega arith) c.declaration-item.is i.0 c.in_ok-declare_one.ensures.declared, c.declare_one.ensures.depth ∙ i.1)
