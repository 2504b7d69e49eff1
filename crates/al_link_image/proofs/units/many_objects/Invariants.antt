use Rattle.al_link_image.specs.Reading.{object_at}
use Rattle.al_link_image.proofs.Readers.{SoFar}
use Rattle.al_link_image.proofs.units.many_objects.Given as goal

abbrev pub invariant-loop-index : goal.invariant-loop-index
invariant-loop-index l = SoFar object_at l.objects.items l._index l.number l.rest l.fn.bytes
