use Rattle.std.proofs.Common.{append_assoc}
use Rattle.al_session_served.proofs.pieces.emit_key.Goals as goal

pub returns-clause-adds : goal.returns-clause-adds
returns-clause-adds g c = λ start before wrote.
    let one = rw c.as_slice.ensures at (c.emit-so_far.ensures.adds start before wrote) in
    let two = c.emit-so_far-2.ensures.adds start _ one in
    let three = rw c.kind_word.ensures at (c.emit.ensures.adds start _ two) in
    simp append_assoc (simp append_assoc at three)
