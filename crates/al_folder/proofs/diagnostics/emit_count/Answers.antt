use Rattle.std.proofs.Common.{append_assoc}
use Rattle.al_folder.proofs.diagnostics.emit_count.Goals as goal

pub returns-clause-adds : goal.returns-clause-adds
returns-clause-adds g c = λ start before wrote.
    let one = c.emit_number-so_far.ensures.adds start before wrote in
    let two = rw c.errors_word.ensures at (c.emit.ensures.adds start _ one) in
    simp append_assoc at two
