use Rattle.std.proofs.Common.{append_assoc}
use Rattle.al_folder.proofs.diagnostics.emit_diagnostic.Goals as goal

pub returns-clause-adds : goal.returns-clause-adds
returns-clause-adds g c = λ start before wrote.
    let one = c.emit_diagnostic_line-so_far.ensures.adds start before wrote in
    let two = c.emit_source.ensures.adds start _ one in
    rw (append_assoc before) at two
