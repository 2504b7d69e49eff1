use Rattle.al_folder_served.proofs.explaining.report_build.Goals as goal

pub returns-then-request-clause-others : goal.returns-then-request-clause-others
returns-then-request-clause-others g c = λ off start before wrote. rw c.if-request.true (c.tell_build.ensures.told start before wrote)
