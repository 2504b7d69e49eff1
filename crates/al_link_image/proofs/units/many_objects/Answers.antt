use Rattle.al_link_image.specs.Reading.{object_at}
use Rattle.al_link_image.proofs.Readers.{one_more}
use Rattle.al_link_image.proofs.units.many_objects.Goals as goal

pub loop-index-preserved : goal.loop-index-preserved
loop-index-preserved c = rw c.in_ok-push.ensures.items (one_more object_at c.loop-index.objects.items c.loop-index._index c.args.number c.loop-index.rest.now c.args.bytes.now c.loop-index.invariant c.in_ok-object.object c.in_ok-object.behind.now c.loop-index-test.true c.in_ok-object.ensures)
