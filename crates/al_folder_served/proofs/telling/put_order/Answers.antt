use Rattle.std.proofs.Common.{append-nil}
use Rattle.al_folder_served.proofs.telling.put_order.Goals as goal

pub returns-clause-put : goal.returns-clause-put
returns-clause-put g c = λ start before wrote.
    let one = c.say_order.ensures start before wrote in
    let two = c.end_put.ensures.put start _ one in
    rw append-nil at two
