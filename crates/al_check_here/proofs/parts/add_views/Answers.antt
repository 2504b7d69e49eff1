use Rattle.std.proofs.Common.{arith}
use Rattle.al_view.specs.Interfaces.{with_view}
use Rattle.al_view.specs.Named.{Declarations}
use Rattle.al_view.specs.declared.view.ViewKind.{ViewKind}
use Rattle.al_check_here.proofs.Lists.{folded}
use Rattle.al_check_here.proofs.parts.add_views.Goals as goal

pub loop-view-preserved : goal.loop-view-preserved
loop-view-preserved c =
    folded (λ (d : Declarations) (v : ViewKind). with_view d c.args.name.now v) c.args.answered.now c.loop-view.answered c.add_view.new.answered c.args.views.now c.loop-view.view-index c.view-item.result (omega arith) c.view-item.is
    c.loop-view.invariant c.in_ok-add_view.ensures
