use Rattle.al_folder.proofs.diagnostics.emit_told.Goals as goal

pub returns-clause-adds : goal.returns-clause-adds
returns-clause-adds g c = λ start before wrote.
    let one = c.emit_diagnostic.ensures.adds start before wrote in
    rw (c.text_shown-text.ensures, c.folder_of-folder.ensures, c.as_slice-file.ensures) at one
