use Rattle.std.proofs.Common.{append_assoc}
use Rattle.al_base.specs.Batch.{key_of}
use Rattle.al_folder.specs.Runs.{exception_word, file_words, named_words}
use Rattle.al_folder.proofs.runs.emit_raised.Goals as goal

pub returns-clause-adds : goal.returns-clause-adds
returns-clause-adds g c = λ start before wrote.
    let one = c.emit-so_far.ensures.adds start before wrote in
    let two = rw c.exception_word.ensures at (c.emit-so_far-2.ensures.adds start _ one) in
    let three = c.emit-so_far-3.ensures.adds start _ two in
    let four = c.emit_file-so_far.ensures.adds start _ three in
    let five = c.emit_line.ensures.adds start _ four in
    simp (append_assoc, append_assoc (exception_word c.args.exception), append_assoc (named_words c.args.folders.now (file_words (key_of c.args.unit.now)))) (simp append_assoc at five)
