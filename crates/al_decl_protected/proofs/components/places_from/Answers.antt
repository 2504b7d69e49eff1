use Rattle.std.proofs.Common.{arith}
use Rattle.al_decl_protected.proofs.Words.{places_end, places_more}
use Rattle.al_decl_protected.proofs.components.places_from.Goals as goal

pub loop-name-preserved : goal.loop-name-preserved
loop-name-preserved c =
    places_more c.args.words c.args.word c.loop-name.next c.saturating_add-next.result c.args.names.now c.loop-name._name-index c.loop-name.places c.push.new.self (omega arith) c.in_ok-push.ensures (omega (arith, c.saturating_add-next.ensures)) c.loop-name.invariant

pub returns : goal.returns
returns c = places_end c.args.words c.args.word c.loop-name.next c.args.names.now c.loop-name._name-index c.loop-name.places (omega arith) c.loop-name.invariant
