use Rattle.std.proofs.Common.{◌∙◌, append_assoc, arith}
use Rattle.std.proofs.lemmas.List.{take_all}
use Rattle.al_report.specs.Report.{noted_text}
use Rattle.al_report.proofs.Lines.{lines_more}
use Rattle.al_report.proofs.text.emit_all.Goals as goal

pub loop-noted-preserved : goal.loop-noted-preserved
loop-noted-preserved g c = record {
  adds = λ start before wrote.
      let more = lines_more (noted_text c.args.folders.now c.args.texts.now c.args.is_plain) c.args.told.now c.loop-noted.noted-index c.noted-item.result (omega arith) c.noted-item.is in
      let so_far = c.emit_noted-so_far.ensures.adds start _ (c.loop-noted.invariant.adds start before wrote) in
      rw more (rw (append_assoc before) at so_far);
  room = λ ok.
      let one = c.emit_noted-so_far.ensures.faults ok in
      let before = c.loop-noted.invariant.room one.0 in
      (before.0, one.1 ∙ before.1);
}

pub returns-clause-adds : goal.returns-clause-adds
returns-clause-adds g c = λ start before wrote.
    rw (take_all c.loop-noted.noted-index c.args.told.now (omega arith)) at (c.loop-noted.invariant.adds start before wrote)
