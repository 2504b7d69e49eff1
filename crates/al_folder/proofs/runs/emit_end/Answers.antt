use Rattle.al_folder.proofs.runs.emit_end.Goals as goal

pub returns-in-Finished-clause-adds : goal.returns-in-Finished-clause-adds
returns-in-Finished-clause-adds g c = λ start before wrote. rw c.in-Finished.is (c.emit.ensures.adds start before wrote)

pub returns-in-Idle-clause-adds : goal.returns-in-Idle-clause-adds
returns-in-Idle-clause-adds g c = λ start before wrote. rw c.in-Idle.is (c.emit-in-Idle.ensures.adds start before wrote)

pub returns-in-Spent-clause-adds : goal.returns-in-Spent-clause-adds
returns-in-Spent-clause-adds g c = λ start before wrote. rw c.in-Spent.is (c.emit-in-Spent.ensures.adds start before wrote)

pub returns-in-Stuck-clause-adds : goal.returns-in-Stuck-clause-adds
returns-in-Stuck-clause-adds g c = λ start before wrote. rw c.in-Stuck.is (c.emit-in-Stuck.ensures.adds start before wrote)

pub returns-in-Raised-clause-adds : goal.returns-in-Raised-clause-adds
returns-in-Raised-clause-adds g c = λ start before wrote. rw c.in-Raised.is (c.emit_raised.ensures.adds start before wrote)
