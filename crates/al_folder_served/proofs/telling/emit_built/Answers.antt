use Rattle.al_folder_served.proofs.telling.emit_built.Goals as goal

pub returns-in-Faulty-clause-adds : goal.returns-in-Faulty-clause-adds
returns-in-Faulty-clause-adds g c = λ start before wrote. rw c.in-Faulty.is (c.emit_found.ensures.adds start before wrote)

pub returns-in-NoMain-clause-adds : goal.returns-in-NoMain-clause-adds
returns-in-NoMain-clause-adds g c = λ start before wrote. rw c.in-NoMain.is (c.emit_no_main.ensures.adds start before wrote)

pub returns-in-NoBody-clause-adds : goal.returns-in-NoBody-clause-adds
returns-in-NoBody-clause-adds g c = λ start before wrote. rw c.in-NoBody.is (c.emit_no_body.ensures.adds start before wrote)

pub returns-in-NoSubunit-clause-adds : goal.returns-in-NoSubunit-clause-adds
returns-in-NoSubunit-clause-adds g c = λ start before wrote. rw c.in-NoSubunit.is (c.emit_no_subunit.ensures.adds start before wrote)

pub returns-in-Cycle-clause-adds : goal.returns-in-Cycle-clause-adds
returns-in-Cycle-clause-adds g c = λ start before wrote. rw c.in-Cycle.is (c.emit_cycle.ensures.adds start before wrote)

pub returns-in-TooLarge-clause-adds : goal.returns-in-TooLarge-clause-adds
returns-in-TooLarge-clause-adds g c = λ start before wrote. rw c.in-TooLarge.is (c.emit_too_large.ensures.adds start before wrote)
