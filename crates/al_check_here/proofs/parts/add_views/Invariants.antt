use Rattle.std.proofs.Common.{◌≡◌, take}
use Rattle.std.specs.Prelude.{fold}
use Rattle.al_view.specs.Interfaces.{with_view}
use Rattle.al_check_here.proofs.parts.add_views.Given as goal

abbrev pub invariant-loop-view : goal.invariant-loop-view
invariant-loop-view l = l.answered ≡ fold (λ d v. with_view d l.name v) l.fn.answered (take l.view-index l.views)
