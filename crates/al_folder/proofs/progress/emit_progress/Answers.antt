use Rattle.std.proofs.Common.{append_assoc}
use Rattle.al_folder.proofs.progress.emit_progress.Goals as goal

pub returns-clause-adds : goal.returns-clause-adds
returns-clause-adds g c = λ start before wrote.
    let one = c.emit_checked-so_far.ensures.adds start before wrote in
    let two = rw c.change_words.ensures at (c.emit-so_far.ensures.adds start _ one) in
    let three = c.emit-so_far-2.ensures.adds start _ two in
    let four = c.emit_number-so_far.ensures.adds start _ three in
    let five = c.emit.ensures.adds start _ four in
    simp append_assoc (simp append_assoc at five)
