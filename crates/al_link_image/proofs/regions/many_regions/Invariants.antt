use Rattle.al_link_image.specs.Reading.{region_at}
use Rattle.al_link_image.proofs.Readers.{SoFar}
use Rattle.al_link_image.proofs.regions.many_regions.Given as goal

abbrev pub invariant-loop-index : goal.invariant-loop-index
invariant-loop-index l = SoFar (region_at l.count) l.regions.items l._index l.number l.rest l.fn.bytes
