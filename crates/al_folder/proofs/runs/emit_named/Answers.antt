use Rattle.std.proofs.Common.{append_assoc}
use Rattle.al_folder.proofs.runs.emit_named.Goals as goal

pub returns-clause-adds : goal.returns-clause-adds
returns-clause-adds g c = λ start before wrote.
    let one = rw c.folder_of.ensures at (c.emit_folder-so_far.ensures.adds start before wrote) in
    let two = c.emit.ensures.adds start _ one in
    rw (append_assoc before) at two
