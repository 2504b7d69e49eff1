use Rattle.std.proofs.Common.{append-nil, append_assoc}
use Rattle.al_folder_served.proofs.telling.tell_parts.Goals as goal

pub returns-clause-told : goal.returns-clause-told
returns-clause-told g c = λ start before wrote.
    let one = c.begin.ensures.told start before wrote in
    let two = c.say_parts.ensures start _ one in
    let three = c.end.ensures.told start _ two in
    rw (append_assoc before) at (rw append-nil at three)
