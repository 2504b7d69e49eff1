use Rattle.std.proofs.Common.{append_assoc}
use Rattle.al_folder_served.proofs.orders.emit_between.Goals as goal

pub returns-clause-adds : goal.returns-clause-adds
returns-clause-adds g c = λ start before wrote.
    let one = c.emit-so_far.ensures.adds start before wrote in
    let two = rw c.as_slice.ensures at (c.emit-so_far-2.ensures.adds start _ one) in
    let three = c.emit.ensures.adds start _ two in
    simp append_assoc (simp append_assoc at three)
