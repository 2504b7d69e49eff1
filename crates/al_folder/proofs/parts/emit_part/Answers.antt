use Rattle.std.proofs.Common.{append_assoc}
use Rattle.al_folder.proofs.parts.emit_part.Goals as goal

pub returns-clause-adds : goal.returns-clause-adds
returns-clause-adds g c = λ start before wrote.
    let one = rw c.part_word.ensures at (c.emit-so_far.ensures.adds start before wrote) in
    let two = rw c.as_slice.ensures at (c.emit.ensures.adds start _ one) in
    simp append_assoc at two
