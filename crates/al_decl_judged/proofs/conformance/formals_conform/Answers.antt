-- One more formal conforms.
use Rattle.std.proofs.Common.{arith}
use Rattle.al_decl_judged.specs.Conformance.{FormalConforms}
use Rattle.al_decl_judged.proofs.EachLemmas.{each_more}
use Rattle.al_decl_judged.proofs.conformance.formals_conform.Goals as goal

pub loop-i-preserved : goal.loop-i-preserved
loop-i-preserved c =
    each_more FormalConforms c.args.formals.now c.args.parameters.now c.loop-i.i c.index-formals-i.result c.index-parameters-i.result (omega arith) c.loop-i-test.true c.index-formals-i.is c.index-parameters-i.is
    (c.formal_conforms.ensures.0 c.if-not-formal_conforms.false) c.loop-i.invariant
