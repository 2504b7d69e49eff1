use Rattle.std.proofs.Common.{◌∙◌, append_assoc, arith}
use Rattle.std.proofs.lemmas.List.{take_all}
use Rattle.al_folder_served.specs.Orders.{depends_line}
use Rattle.al_folder_served.proofs.Gathered.{bytes_one_more}
use Rattle.al_folder_served.proofs.orders.emit_all_depends.Goals as goal

pub loop-key-preserved : goal.loop-key-preserved
loop-key-preserved g c = record {
  adds = λ start before wrote.
      let more = bytes_one_more (depends_line c.args.item.now) c.args.before.now c.loop-key.key-index c.key-item.result (omega arith) c.key-item.is in
      let so_far = c.emit_depends-so_far.ensures.adds start _ (c.loop-key.invariant.adds start before wrote) in
      rw more (rw (append_assoc before) at so_far);
  room = λ ok.
      let one = c.emit_depends-so_far.ensures.faults ok in
      let before = c.loop-key.invariant.room one.0 in
      (before.0, one.1 ∙ before.1);
}

pub returns-clause-adds : goal.returns-clause-adds
returns-clause-adds g c = λ start before wrote.
    rw (take_all c.loop-key.key-index c.args.before.now (omega arith)) at (c.loop-key.invariant.adds start before wrote)
