use Rattle.std.proofs.Common.{arith}
use Rattle.std.proofs.lemmas.Grind.{common_steps}
use Rattle.al_unit_faults.proofs.OrderLemmas.{of_one_file}
use Rattle.al_unit_faults.proofs.order.add_ascending.Goals as goal

pub returns : goal.returns
returns c = let same = of_one_file c.args.file.now c.args.found.now c.requires in grind (arith, common_steps, same, c.loop-spot.invariant)
