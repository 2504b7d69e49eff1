use Rattle.std.proofs.Common.{append_assoc}
use Rattle.al_folder.proofs.excerpt.emit_shown.Goals as goal

pub returns-clause-adds : goal.returns-clause-adds
returns-clause-adds g c = λ start before wrote.
    let one = rw c.where_left.ensures at (c.emit-so_far.ensures.adds start before wrote) in
    let two = rw (c.front_of.ensures, c.after-rest.ensures) at (c.emit_shown_bytes-so_far.ensures.adds start _ one) in
    let three = rw (c.where_left-2.ensures, c.after-rest.ensures) at (c.emit.ensures.adds start _ two) in
    simp append_assoc (simp append_assoc at three)
