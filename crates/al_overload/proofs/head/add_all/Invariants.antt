use Rattle.std.proofs.Common.{◌≡◌, take}
use Rattle.al_overload.specs.Counts.{plain}
use Rattle.al_overload.specs.Candidates.{with_all}
use Rattle.al_overload.proofs.head.add_all.Given as goal

abbrev pub invariant-loop-view : goal.invariant-loop-view
invariant-loop-view l = plain l.head ≡ with_all l.root (plain l.initial.head) (take l.view-index l.views)
