use Rattle.std.proofs.Common.{append_assoc}
use Rattle.al_report.proofs.text.emit_noted.Goals as goal

pub returns-clause-adds : goal.returns-clause-adds
returns-clause-adds g c = λ start before wrote.
    let one = c.emit_told-so_far.ensures.adds start before wrote in
    let two = rw c.as_slice.ensures.value at (c.emit_notes.ensures.adds start _ one) in
    rw (append_assoc before) at two
