use Rattle.std.proofs.Common.{append_assoc}
use Rattle.al_folder.specs.Parts.{part_word}
use Rattle.al_folder.proofs.faults.emit_step.Goals as goal

pub returns-clause-adds : goal.returns-clause-adds
returns-clause-adds g c = λ start before wrote.
    let one = c.emit-so_far.ensures.adds start before wrote in
    let two = c.emit_part-so_far.ensures.adds start _ one in
    let three = c.emit-so_far-2.ensures.adds start _ two in
    let four = c.emit_part-so_far-2.ensures.adds start _ three in
    let five = rw c.reason_words.ensures at (c.emit.ensures.adds start _ four) in
    simp (append_assoc, append_assoc (part_word c.args.line.now.after.kind), append_assoc (part_word c.args.line.now.before.kind)) (simp append_assoc at five)
