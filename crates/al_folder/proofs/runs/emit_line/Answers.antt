use Rattle.std.proofs.Common.{append_assoc}
use Rattle.al_folder.proofs.runs.emit_line.Goals as goal

pub returns-in_default-clause-adds : goal.returns-in_default-clause-adds
returns-in_default-clause-adds g c = λ start before wrote. rw c.in_default.is (c.emit.ensures.adds start before wrote)

pub returns-clause-adds : goal.returns-clause-adds
returns-clause-adds g c = λ start before wrote.
    let one = c.emit-so_far.ensures.adds start before wrote in
    let two = c.emit_number-so_far.ensures.adds start _ one in
    let three = c.emit-2.ensures.adds start _ two in
    rw c.in-Some.is (simp append_assoc (simp append_assoc at three))
