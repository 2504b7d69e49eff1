use Rattle.std.proofs.Common.{append_assoc}
use Rattle.al_folder.proofs.messages.emit_message.Goals as goal

pub returns-clause-adds : goal.returns-clause-adds
returns-clause-adds g c = λ start before wrote.
    let one = c.emit_pieces-so_far.ensures.adds start before wrote in
    let two = c.emit.ensures.adds start _ one in
    simp append_assoc at two
