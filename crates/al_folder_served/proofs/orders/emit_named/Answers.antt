use Rattle.std.proofs.Common.{append_assoc}
use Rattle.al_folder_served.proofs.orders.emit_named.Goals as goal

pub returns-clause-adds : goal.returns-clause-adds
returns-clause-adds g c = λ start before wrote.
    let one = rw c.as_slice-bodies.ensures.value at (c.emit_all_between-so_far.ensures.adds start before wrote) in
    let two = rw c.as_slice-units.ensures.value at (c.emit_all_between.ensures.adds start _ one) in
    rw (append_assoc before) at two
