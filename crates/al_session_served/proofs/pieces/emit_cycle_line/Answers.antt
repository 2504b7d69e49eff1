use Rattle.std.proofs.Common.{append_assoc}
use Rattle.al_session_served.proofs.pieces.emit_cycle_line.Goals as goal

pub returns-clause-adds : goal.returns-clause-adds
returns-clause-adds g c = λ start before wrote.
    let one = c.emit_key-so_far.ensures.adds start before wrote in
    let two = c.emit-so_far.ensures.adds start _ one in
    let three = c.emit_key-so_far-2.ensures.adds start _ two in
    let four = c.emit-so_far-2.ensures.adds start _ three in
    let five = rw c.reason_word.ensures at (c.emit-so_far-3.ensures.adds start _ four) in
    let six = c.emit.ensures.adds start _ five in
    simp append_assoc (simp append_assoc at six)
