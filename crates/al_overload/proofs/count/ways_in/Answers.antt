use Rattle.std.proofs.Common.{◌∙◌, arith}
use Rattle.al_overload.proofs.Counting.{tally-next}
use Rattle.al_overload.proofs.count.ways_in.Goals as goal

pub loop-choice-preserved : goal.loop-choice-preserved
loop-choice-preserved c =
    c.or-ways.ensures ∙
    tally-next c.args.is_root c.args.expected.now c.args.choices.now c.loop-choice.choice-index c.choice-item.result c.choice-item.result
    c.loop-choice.ways c.ways_with.result (omega arith) c.choice-item.is c.loop-choice.invariant c.ways_with.ensures
