use Rattle.std.proofs.Common.{◌≡◌, ◌++◌, map, take}
use Rattle.al_overload.specs.Counts.{candidates, counted_all, plain_all}
use Rattle.al_overload.specs.Ranges.{one_type}
use Rattle.al_overload.proofs.range.add_each.Given as goal

abbrev pub invariant-loop-of : goal.invariant-loop-of
invariant-loop-of l =
    (candidates l.choices ≡ candidates l.fn.choices ++ map (one_type l.root l.always (plain_all l.operands)) (take l.of-index l.types))
    × (l.choices ≡ counted_all (plain_all l.operands) (candidates l.choices))
