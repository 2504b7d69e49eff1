use Rattle.al_session_served.proofs.reports.report_diagnostics.Goals as goal

pub returns-clause-adds : goal.returns-clause-adds
returns-clause-adds g c = λ start before wrote. rw c.findings.ensures at (c.emit_diagnostics.ensures.adds start before wrote)
