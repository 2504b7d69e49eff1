use Rattle.std.proofs.Common.{◌∙◌, append_assoc, arith}
use Rattle.std.proofs.lemmas.List.{take_all}
use Rattle.al_folder_served.specs.Orders.{between}
use Rattle.al_folder_served.proofs.Gathered.{bytes_one_more}
use Rattle.al_folder_served.proofs.orders.emit_all_between.Goals as goal

pub loop-name-preserved : goal.loop-name-preserved
loop-name-preserved g c = record {
  adds = λ start before wrote.
      let more = bytes_one_more (between c.args.front.now c.args.back.now) c.args.names.now c.loop-name.name-index c.name-item.result (omega arith) c.name-item.is in
      let so_far = c.emit_between-so_far.ensures.adds start _ (c.loop-name.invariant.adds start before wrote) in
      rw more (rw (append_assoc before) at so_far);
  room = λ ok.
      let one = c.emit_between-so_far.ensures.faults ok in
      let before = c.loop-name.invariant.room one.0 in
      (before.0, one.1 ∙ before.1);
}

pub returns-clause-adds : goal.returns-clause-adds
returns-clause-adds g c = λ start before wrote.
    rw (take_all c.loop-name.name-index c.args.names.now (omega arith)) at (c.loop-name.invariant.adds start before wrote)
