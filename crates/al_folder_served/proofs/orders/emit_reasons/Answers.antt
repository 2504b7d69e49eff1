use Rattle.std.proofs.Common.{append_assoc}
use Rattle.al_folder_served.proofs.orders.emit_reasons.Goals as goal

pub returns-clause-adds : goal.returns-clause-adds
returns-clause-adds g c = λ start before wrote.
    let one = rw c.from_ref.ensures.value at (c.emit_parts-so_far.ensures.adds start before wrote) in
    let two = rw c.as_slice.ensures.value at (c.emit_all_depends-so_far.ensures.adds start _ one) in
    let three = c.emit_named.ensures.adds start _ two in
    rw (append_assoc before) at (rw (append_assoc before) at three)
