use Rattle.al_folder.proofs.diagnostics.emit_source.Goals as goal

pub returns-in_default-clause-adds : goal.returns-in_default-clause-adds
returns-in_default-clause-adds g c = λ start before wrote. rw c.in_default.is (c.emit.ensures.adds start before wrote)

pub returns-clause-adds : goal.returns-clause-adds
returns-clause-adds g c = λ start before wrote.
    rw c.in-Some.is (rw (c.line_at-line.ensures, c.saturating_sub.ensures) at (c.emit_excerpt.ensures.adds start before wrote))
