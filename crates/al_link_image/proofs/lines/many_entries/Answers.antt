use Rattle.al_link_image.specs.Reading.{entry_at}
use Rattle.al_link_image.proofs.Readers.{one_more}
use Rattle.al_link_image.proofs.lines.many_entries.Goals as goal

pub loop-index-preserved : goal.loop-index-preserved
loop-index-preserved c = rw c.in_ok-push.ensures.items (one_more entry_at c.loop-index.entries.items c.loop-index._index c.args.number c.loop-index.rest.now c.args.bytes.now c.loop-index.invariant c.in_ok-entry.entry c.in_ok-entry.behind.now c.loop-index-test.true c.in_ok-entry.ensures)
