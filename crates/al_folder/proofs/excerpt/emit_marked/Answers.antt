use Rattle.std.proofs.Common.{append_assoc}
use Rattle.al_folder.proofs.excerpt.emit_marked.Goals as goal

pub returns-clause-adds : goal.returns-clause-adds
returns-clause-adds g c = λ start before wrote.
    let one = rw c.left_out-front.ensures.value at (c.emit_shown-so_far.ensures.adds start before wrote) in
    let two = c.emit-so_far.ensures.adds start _ one in
    let three = rw c.left_out-front.ensures.value at (c.emit_caret-so_far.ensures.adds start _ two) in
    let four = c.emit.ensures.adds start _ three in
    simp append_assoc (simp append_assoc at four)
