use Rattle.std.proofs.Common.{◌∙◌, append_assoc, arith}
use Rattle.std.proofs.lemmas.List.{take_all}
use Rattle.al_base.specs.Batch.{finding_of}
use Rattle.al_folder.specs.Diagnostics.{told_text}
use Rattle.al_folder.proofs.ToldLines.{lines_more}
use Rattle.al_folder.proofs.diagnostics.emit_each.Goals as goal

pub loop-diagnostic-preserved : goal.loop-diagnostic-preserved
loop-diagnostic-preserved g c = record {
  adds = λ start before wrote.
      let more = lines_more (told_text c.args.folders.now c.args.texts.now c.args.is_plain) finding_of c.args.diagnostics.now c.loop-diagnostic.diagnostic-index c.diagnostic-item.result (omega arith) c.diagnostic-item.is in
      let so_far = c.emit_told-so_far.ensures.adds start _ (c.loop-diagnostic.invariant.adds start before wrote) in
      rw more (rw append_assoc at so_far);
  room = λ ok.
      let one = c.emit_told-so_far.ensures.faults ok in
      let before = c.loop-diagnostic.invariant.room one.0 in
      (before.0, one.1 ∙ before.1);
}

pub returns-clause-adds : goal.returns-clause-adds
returns-clause-adds g c = λ start before wrote.
    rw (take_all c.loop-diagnostic.diagnostic-index c.args.diagnostics.now (omega arith)) at (c.loop-diagnostic.invariant.adds start before wrote)
