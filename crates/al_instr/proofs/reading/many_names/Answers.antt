use Rattle.al_instr.proofs.NameFields.{one_more}
use Rattle.al_instr.proofs.reading.many_names.Goals as goal

pub loop-index-preserved : goal.loop-index-preserved
loop-index-preserved c = rw c.in_ok-push.ensures (one_more c.loop-index.names c.loop-index.index c.args.count c.loop-index.rest.now c.args.bytes.now c.in_ok-name.name c.in_ok-name.after.now c.loop-index.invariant c.loop-index-test.true c.in_ok-name.ensures)
