use Rattle.std.proofs.Common.{◌∙◌, append_assoc, arith}
use Rattle.std.proofs.lemmas.List.{take_all}
use Rattle.al_bind.specs.Binding.{line_model}
use Rattle.al_folder.specs.Faults.{step_line}
use Rattle.al_folder.proofs.ToldLines.{lines_more}
use Rattle.al_folder.proofs.faults.emit_steps.Goals as goal

pub loop-line-preserved : goal.loop-line-preserved
loop-line-preserved g c = record {
  adds = λ start before wrote.
      let more = lines_more step_line line_model c.args.lines.now c.loop-line.line-index c.line-item.result (omega arith) c.line-item.is in
      let so_far = c.emit_step-so_far.ensures.adds start _ (c.loop-line.invariant.adds start before wrote) in
      rw more (rw append_assoc at so_far);
  room = λ ok.
      let one = c.emit_step-so_far.ensures.faults ok in
      let before = c.loop-line.invariant.room one.0 in
      (before.0, one.1 ∙ before.1);
}

pub returns-clause-adds : goal.returns-clause-adds
returns-clause-adds g c = λ start before wrote.
    rw (take_all c.loop-line.line-index c.args.lines.now (omega arith)) at (c.loop-line.invariant.adds start before wrote)
