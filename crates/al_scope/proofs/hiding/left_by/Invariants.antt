use Rattle.std.proofs.Common.{◌≡◌, filter, not, take}
use Rattle.std.specs.List.{list_any}
use Rattle.al_scope.specs.Visible.{shuts_out}
use Rattle.al_scope.proofs.hiding.left_by.Given as goal

abbrev pub invariant-loop-view : goal.invariant-loop-view
invariant-loop-view l = l.left ≡ filter (λ v. not (list_any (shuts_out v) l.founds)) (take l.view-index l.view-items)
