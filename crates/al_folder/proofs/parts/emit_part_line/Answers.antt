use Rattle.std.proofs.Common.{append_assoc}
use Rattle.al_folder.specs.Parts.{part_word}
use Rattle.al_folder.proofs.parts.emit_part_line.Goals as goal

pub returns-clause-adds : goal.returns-clause-adds
returns-clause-adds g c = λ start before wrote.
    let one = c.emit_part-so_far.ensures.adds start before wrote in
    let two = c.emit.ensures.adds start _ one in
    simp (append_assoc, append_assoc (part_word c.args.key.now.kind)) (simp append_assoc at two)
