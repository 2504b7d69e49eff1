use Rattle.al_link_image.proofs.LineReaders.{few_lines}
use Rattle.al_link_image.proofs.image.Image.bytes_into.Goals as goal

pub push_tail-requires-clause-lines : goal.push_tail-requires-clause-lines
push_tail-requires-clause-lines c = few_lines c.self.inside.parts.lines _ c.self.invariant.within.code_size c.self.invariant.within.lines
