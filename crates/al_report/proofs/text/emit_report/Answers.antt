use Rattle.std.proofs.Common.{append_assoc}
use Rattle.al_report.proofs.text.emit_report.Goals as goal

pub returns-clause-adds : goal.returns-clause-adds
returns-clause-adds g c = λ start before wrote.
    let one = c.emit_all-so_far.ensures.adds start before wrote in
    let two = c.emit_count-so_far.ensures.adds start _ one in
    let three = c.emit_dependents.ensures.adds start _ two in
    simp append_assoc (simp append_assoc at three)
