use Rattle.al_session_served.proofs.reports.emit_report.Goals as goal

pub returns-in-Diagnostics-clause-adds : goal.returns-in-Diagnostics-clause-adds
returns-in-Diagnostics-clause-adds g c = λ start before wrote. rw c.in-Diagnostics.is (c.report_diagnostics.ensures.adds start before wrote)

pub returns-in-Order-clause-adds : goal.returns-in-Order-clause-adds
returns-in-Order-clause-adds g c = λ start before wrote. rw c.in-Order.is (c.report_order.ensures.adds start before wrote)

pub returns-in-Image-clause-adds : goal.returns-in-Image-clause-adds
returns-in-Image-clause-adds g c = λ start before wrote. rw c.in-Image.is (c.report_image.ensures.adds start before wrote)
