use Rattle.std.proofs.Common.{◌≡◌, filter, not, take}
use Rattle.al_scope.specs.PartialViews.{gives_way}
use Rattle.al_scope.proofs.partial.left_of.Given as goal

abbrev pub invariant-loop-view : goal.invariant-loop-view
invariant-loop-view l = l.left ≡ filter (λ v. not (gives_way l.all v)) (take l.view-index l.all)
