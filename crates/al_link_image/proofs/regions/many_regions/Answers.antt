use Rattle.al_link_image.specs.Reading.{region_at}
use Rattle.al_link_image.proofs.Readers.{one_more}
use Rattle.al_link_image.proofs.regions.many_regions.Goals as goal

pub loop-index-preserved : goal.loop-index-preserved
loop-index-preserved c = rw c.in_ok-push.ensures.items (one_more (region_at c.args.count) c.loop-index.regions.items c.loop-index._index c.args.number c.loop-index.rest.now c.args.bytes.now c.loop-index.invariant c.in_ok-region.region c.in_ok-region.behind.now c.loop-index-test.true c.in_ok-region.ensures)
