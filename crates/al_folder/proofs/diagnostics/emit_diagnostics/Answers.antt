use Rattle.std.proofs.Common.{append_assoc}
use Rattle.std.proofs.lemmas.List.{length-map}
use Rattle.al_base.specs.Batch.{finding_of}
use Rattle.al_folder.proofs.diagnostics.emit_diagnostics.Goals as goal

pub returns-clause-adds : goal.returns-clause-adds
returns-clause-adds g c = λ start before wrote.
    let one = c.emit_each-so_far.ensures.adds start before wrote in
    let two = c.emit_count.ensures.adds start _ one in
    rw (length-map c.args.diagnostics.now finding_of) (simp append_assoc at two)
