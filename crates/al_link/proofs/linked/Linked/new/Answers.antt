use Rattle.al_link.specs.Partitions.{compiled_units}
use Rattle.al_link.proofs.SizeLemmas.{lines_count}
use Rattle.al_link.proofs.linked.Linked.new.Goals as goal

pub image_size-requires-clause-lines : goal.image_size-requires-clause-lines
image_size-requires-clause-lines c = lines_count c.args.main.now (compiled_units c.args.units.now) c.in_ok-fresh.fresh.prepared c.in_ok-fresh.ensures.prepared
