use Rattle.std.proofs.Common.{◌∙◌, append_assoc, arith}
use Rattle.std.proofs.lemmas.List.{take_all}
use Rattle.al_report.specs.Report.{note_line}
use Rattle.al_report.proofs.Lines.{lines_more}
use Rattle.al_report.proofs.text.emit_notes.Goals as goal

pub loop-note-preserved : goal.loop-note-preserved
loop-note-preserved g c = record {
  adds = λ start before wrote.
      let more = lines_more (λ note. note_line note.items) c.args.notes.now c.loop-note.note-index c.note-item.result (omega arith) c.note-item.is in
      let so_far = rw c.as_slice.ensures.value at (c.emit_note-so_far.ensures.adds start _ (c.loop-note.invariant.adds start before wrote)) in
      rw more (rw append_assoc at so_far);
  room = λ ok.
      let one = c.emit_note-so_far.ensures.faults ok in
      let before = c.loop-note.invariant.room one.0 in
      (before.0, one.1 ∙ before.1);
}

pub returns-clause-adds : goal.returns-clause-adds
returns-clause-adds g c = λ start before wrote.
    rw (take_all c.loop-note.note-index c.args.notes.now (omega arith)) at (c.loop-note.invariant.adds start before wrote)
