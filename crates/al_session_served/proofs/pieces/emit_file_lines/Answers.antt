use Rattle.std.proofs.Common.{◌∙◌, append_assoc, arith}
use Rattle.std.proofs.lemmas.List.{take_all}
use Rattle.al_session_served.specs.Library.{file_unit_of}
use Rattle.al_session_served.specs.Replies.{file_line}
use Rattle.al_session_served.proofs.Lines.{lines_more}
use Rattle.al_session_served.proofs.pieces.emit_file_lines.Goals as goal

pub loop-file-preserved : goal.loop-file-preserved
loop-file-preserved g c = record {
  adds = λ start before wrote.
      let more = lines_more file_line file_unit_of c.args.files.now c.loop-file.file-index c.loop-file-item.result (omega arith) c.loop-file-item.is in
      let so_far = c.emit_file_line-so_far.ensures.adds start _ (c.loop-file.invariant.adds start before wrote) in
      rw more (rw append_assoc at so_far);
  room = λ ok.
      let one = c.emit_file_line-so_far.ensures.faults ok in
      let before = c.loop-file.invariant.room one.0 in
      (before.0, one.1 ∙ before.1);
}

pub returns-clause-adds : goal.returns-clause-adds
returns-clause-adds g c = λ start before wrote.
    rw (take_all c.loop-file.file-index c.args.files.now (omega arith)) at (c.loop-file.invariant.adds start before wrote)
