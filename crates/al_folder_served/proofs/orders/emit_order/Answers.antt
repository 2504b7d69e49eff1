use Rattle.std.proofs.Common.{◌∙◌, append_assoc, arith}
use Rattle.std.proofs.lemmas.List.{take_all}
use Rattle.al_folder_served.specs.Orders.{reasons_text}
use Rattle.al_folder_served.proofs.Gathered.{bytes_one_more}
use Rattle.al_folder_served.proofs.orders.emit_order.Goals as goal

pub loop-reasons-preserved : goal.loop-reasons-preserved
loop-reasons-preserved g c = record {
  adds = λ start before wrote.
      let more = bytes_one_more reasons_text c.args.order.now c.loop-reasons.reasons-index c.reasons-item.result (omega arith) c.reasons-item.is in
      let so_far = c.emit_reasons-so_far.ensures.adds start _ (c.loop-reasons.invariant.adds start before wrote) in
      rw more (rw (append_assoc before) at so_far);
  room = λ ok.
      let one = c.emit_reasons-so_far.ensures.faults ok in
      let before = c.loop-reasons.invariant.room one.0 in
      (before.0, one.1 ∙ before.1);
}

pub returns-clause-adds : goal.returns-clause-adds
returns-clause-adds g c = λ start before wrote.
    rw (take_all c.loop-reasons.reasons-index c.args.order.now (omega arith)) at (c.loop-reasons.invariant.adds start before wrote)
