use Rattle.std.proofs.Common.{sym, ◌∙◌, append-nil, append_assoc}
use Rattle.al_folder_served.proofs.ToldBuilds.{told_silent, told_loud}
use Rattle.al_folder_served.proofs.telling.tell_end.Goals as goal

pub returns-then-is_silent-clause-told : goal.returns-then-is_silent-clause-told
returns-then-is_silent-clause-told g c = λ start before wrote.
    rw (told_silent c.args.screen.now.is_open c.args.folders.now c.args.end.now (sym c.is_silent.ensures ∙ c.if-is_silent.true)) (rw (append-nil before) wrote)

pub returns-clause-told : goal.returns-clause-told
returns-clause-told g c = λ start before wrote.
    let one = c.begin.ensures.told start before wrote in
    let two = c.say_end.ensures start _ one in
    let three = c.end.ensures.told start _ two in
    rw (told_loud c.args.screen.now.is_open c.args.folders.now c.args.end.now (sym c.is_silent.ensures ∙ c.if-is_silent.false)) (rw (append_assoc before) at (rw append-nil at three))
