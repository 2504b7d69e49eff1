use Rattle.std.proofs.Common.{append_assoc}
use Rattle.al_session_served.proofs.pieces.emit_refusal.Goals as goal

pub returns-clause-adds : goal.returns-clause-adds
returns-clause-adds g c = λ start before wrote.
    let one = c.emit-so_far.ensures.adds start before wrote in
    let two = rw (c.from.ensures, c.number.ensures) at (c.emit_number-so_far.ensures.adds start _ one) in
    let three = c.emit-so_far-2.ensures.adds start _ two in
    let four = rw c.word_of.ensures at (c.emit-so_far-3.ensures.adds start _ three) in
    let five = c.emit.ensures.adds start _ four in
    simp append_assoc (simp append_assoc at five)
