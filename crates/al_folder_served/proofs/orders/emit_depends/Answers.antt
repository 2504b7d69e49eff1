use Rattle.al_folder_served.proofs.orders.emit_depends.Goals as goal

pub returns-clause-adds : goal.returns-clause-adds
returns-clause-adds g c = λ start before wrote.
    let one = rw c.why_front.ensures at (rw c.why_back.ensures at (c.emit_between.ensures.adds start before wrote)) in
    rw c.as_slice.ensures at (rw c.as_slice-2.ensures at (rw c.why_of-why.ensures at one))
