use Rattle.std.proofs.Common.{arith}
use Rattle.al_decl_protected.proofs.Words.{word_next}
use Rattle.al_decl_protected.proofs.components.word_after.Goals as goal

pub loop-name-preserved : goal.loop-name-preserved
loop-name-preserved c =
    word_next c.args.words c.args.word c.loop-name.next c.saturating_add-next.result c.args.names.now c.loop-name._name-index (omega arith) (omega (arith, c.saturating_add-next.ensures)) c.loop-name.invariant
