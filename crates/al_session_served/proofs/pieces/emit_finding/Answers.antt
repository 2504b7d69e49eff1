use Rattle.std.proofs.Common.{append_assoc}
use Rattle.al_session_served.proofs.pieces.emit_finding.Goals as goal

pub returns-clause-adds : goal.returns-clause-adds
returns-clause-adds g c = λ start before wrote.
    let one = rw c.as_slice.ensures at (c.emit-so_far.ensures.adds start before wrote) in
    let two = c.emit-so_far-2.ensures.adds start _ one in
    let three = c.emit_number-so_far.ensures.adds start _ two in
    let four = c.emit-so_far-3.ensures.adds start _ three in
    let five = c.emit_number-so_far-2.ensures.adds start _ four in
    let six = c.emit-so_far-4.ensures.adds start _ five in
    let seven = rw c.message_of.ensures at (c.emit-so_far-5.ensures.adds start _ six) in
    let eight = c.emit.ensures.adds start _ seven in
    simp append_assoc (simp append_assoc at eight)
