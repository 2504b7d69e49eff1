use Rattle.std.proofs.Common.{append_assoc}
use Rattle.al_folder.proofs.diagnostics.emit_folder.Goals as goal

pub returns-clause-adds : goal.returns-clause-adds
returns-clause-adds g c = λ start before wrote.
    let one = rw c.named_folder.ensures at (c.emit_shown_bytes-so_far.ensures.adds start before wrote) in
    let two = rw c.separator.ensures at (c.emit.ensures.adds start _ one) in
    simp append_assoc at two
