use Rattle.std.proofs.lemmas.List.{length-map}
use Rattle.al_base.specs.Batch.{key_of}
use Rattle.al_session_served.proofs.reports.emit_outcome.Goals as goal

pub returns-in-Faulty-clause-adds : goal.returns-in-Faulty-clause-adds
returns-in-Faulty-clause-adds g c = λ start before wrote. rw c.in-Faulty.is (c.emit_diagnostics.ensures.adds start before wrote)

pub returns-in-NoMain-clause-adds : goal.returns-in-NoMain-clause-adds
returns-in-NoMain-clause-adds g c = λ start before wrote. rw c.in-NoMain.is (c.emit_lack.ensures.adds start before wrote)

pub returns-in-NoBody-clause-adds : goal.returns-in-NoBody-clause-adds
returns-in-NoBody-clause-adds g c = λ start before wrote. rw c.in-NoBody.is (c.emit_lack-in-NoBody.ensures.adds start before wrote)

pub returns-in-NoSubunit-clause-adds : goal.returns-in-NoSubunit-clause-adds
returns-in-NoSubunit-clause-adds g c = λ start before wrote. rw c.in-NoSubunit.is (c.emit_lack-in-NoSubunit.ensures.adds start before wrote)

pub returns-in-Cycle-clause-adds : goal.returns-in-Cycle-clause-adds
returns-in-Cycle-clause-adds g c = λ start before wrote. rw c.in-Cycle.is (c.emit_cycle.ensures.adds start before wrote)

pub returns-in-TooLarge-clause-adds : goal.returns-in-TooLarge-clause-adds
returns-in-TooLarge-clause-adds g c = λ start before wrote. rw c.in-TooLarge.is (c.emit.ensures.adds start before wrote)

pub returns-in-Made-clause-adds : goal.returns-in-Made-clause-adds
returns-in-Made-clause-adds g c = λ start before wrote.
    let orders = length-map c.in-Made.order.now key_of in
    rw (c.in-Made.is, orders) (c.emit_built.ensures.adds start before wrote)
