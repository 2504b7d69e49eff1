use Rattle.std.proofs.Common.{append_assoc}
use Rattle.al_folder.specs.Diagnostics.{folder_words}
use Rattle.al_folder.proofs.diagnostics.emit_diagnostic_line.Goals as goal

pub returns-clause-adds : goal.returns-clause-adds
returns-clause-adds g c = λ start before wrote.
    let one = c.emit_folder-so_far.ensures.adds start before wrote in
    let two = rw c.as_slice.ensures at (c.emit-so_far.ensures.adds start _ one) in
    let three = c.emit-so_far-2.ensures.adds start _ two in
    let four = c.emit_number-so_far.ensures.adds start _ three in
    let five = c.emit-so_far-3.ensures.adds start _ four in
    let six = c.emit_number-so_far-2.ensures.adds start _ five in
    let seven = c.emit-so_far-4.ensures.adds start _ six in
    let eight = rw c.message_of.ensures at (c.emit-so_far-5.ensures.adds start _ seven) in
    let nine = c.emit.ensures.adds start _ eight in
    simp (append_assoc, append_assoc (folder_words c.args.folder.now)) (simp append_assoc at nine)
