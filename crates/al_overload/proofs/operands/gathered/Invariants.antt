use Rattle.std.proofs.Common.{◌≡◌, length, map}
use Rattle.al_overload.specs.Counts.{plain, plain_all}
use Rattle.al_overload.specs.HeadsHeads.{trees_of}
use Rattle.al_overload.proofs.Gathered.{before}
use Rattle.al_overload.proofs.operands.gathered.Given as goal

abbrev pub invariant-loop-head : goal.invariant-loop-head
invariant-loop-head l = before l.heads.items (plain_all l.operands) ≡ trees_of (map plain l.fn.heads.items)

abbrev pub decreases-loop-head : goal.decreases-loop-head
decreases-loop-head l = length l.heads.items
