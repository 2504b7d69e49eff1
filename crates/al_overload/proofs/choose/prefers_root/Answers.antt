use Rattle.al_overload.proofs.Counting.{prefers}
use Rattle.al_overload.proofs.choose.prefers_root.Goals as goal

pub returns : goal.returns
returns c = prefers c.args.choices.now c.args._operands.now c.args.expected.now c.is_any.result c.ways_in.result c.requires c.ways_in.ensures c.is_any.ensures
