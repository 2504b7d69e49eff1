use Rattle.al_link_image.specs.Reading.{entry_at}
use Rattle.al_link_image.proofs.Readers.{SoFar}
use Rattle.al_link_image.proofs.lines.many_entries.Given as goal

abbrev pub invariant-loop-index : goal.invariant-loop-index
invariant-loop-index l = SoFar entry_at l.entries.items l._index l.number l.rest l.fn.bytes
