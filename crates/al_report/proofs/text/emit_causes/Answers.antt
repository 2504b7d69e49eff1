use Rattle.std.proofs.Common.{◌∙◌, append-nil, append_assoc, refl, arith}
use Rattle.std.proofs.lemmas.List.{take_all}
use Rattle.al_report.proofs.Lines.{no_causes, causes_more}
use Rattle.al_report.proofs.text.emit_causes.Goals as goal

pub loop-number-init : goal.loop-number-init
loop-number-init g c = record {
  adds = λ start before wrote. rw (no_causes c.args.mark.now, append-nil before) wrote;
  room = λ ok. (ok, refl);
}

pub loop-number-preserved : goal.loop-number-preserved
loop-number-preserved g c = record {
  adds = λ start before wrote.
      let more = causes_more c.args.mark.now c.args.causes.now c.loop-number.number c.index-causes-number.result (omega arith) c.index-causes-number.is in
      let so_far = rw c.mark_at.ensures at (c.emit_cause-so_far.ensures.adds start _ (c.loop-number.invariant.adds start before wrote)) in
      rw more (rw (append_assoc before) at so_far);
  room = λ ok.
      let one = c.emit_cause-so_far.ensures.faults ok in
      let before = c.loop-number.invariant.room one.0 in
      (before.0, one.1 ∙ before.1);
}

pub returns-clause-adds : goal.returns-clause-adds
returns-clause-adds g c = λ start before wrote.
    rw (take_all c.loop-number.number c.args.causes.now (omega arith)) at (c.loop-number.invariant.adds start before wrote)
