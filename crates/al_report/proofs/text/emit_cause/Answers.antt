use Rattle.std.proofs.Common.{append_assoc}
use Rattle.al_report.proofs.text.emit_cause.Goals as goal

pub returns-clause-adds : goal.returns-clause-adds
returns-clause-adds g c = λ start before wrote.
    let one = c.emit-so_far.ensures.adds start before wrote in
    let two = c.emit_number-so_far.ensures.adds start _ one in
    let three = c.emit-so_far-2.ensures.adds start _ two in
    let four = rw c.as_slice.ensures.value at (c.emit.ensures.adds start _ three) in
    simp append_assoc (simp append_assoc at four)
