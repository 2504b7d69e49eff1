use Rattle.std.proofs.Common.{append_assoc}
use Rattle.al_session_served.proofs.pieces.emit_file_line.Goals as goal

pub returns-in_default-clause-adds : goal.returns-in_default-clause-adds
returns-in_default-clause-adds g c = λ start before wrote.
    let one = rw c.as_slice.ensures at (c.emit-so_far.ensures.adds start before wrote) in
    let two = c.emit.ensures.adds start _ one in
    rw c.in_default.is (simp append_assoc at two)

pub returns-clause-adds : goal.returns-clause-adds
returns-clause-adds g c = λ start before wrote.
    let one = rw c.as_slice.ensures at (c.emit-so_far.ensures.adds start before wrote) in
    let two = c.emit-so_far-2.ensures.adds start _ one in
    let three = rw c.kind_word.ensures at (c.emit-so_far-3.ensures.adds start _ two) in
    let four = c.emit-so_far-4.ensures.adds start _ three in
    let five = rw c.as_slice-2.ensures at (c.emit-so_far-5.ensures.adds start _ four) in
    let six = c.emit-2.ensures.adds start _ five in
    rw c.in-Some.is (simp append_assoc (simp append_assoc at six))
