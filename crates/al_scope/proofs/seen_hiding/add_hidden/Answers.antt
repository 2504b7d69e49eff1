use Rattle.std.proofs.Common.{◌∙◌, ap, arith}
use Rattle.al_view.specs.Interfaces.{with_view}
use Rattle.al_view.specs.Named.{Declarations}
use Rattle.al_view.specs.declared.view.ViewKind.{ViewKind}
use Rattle.al_scope.specs.Hidden.{hidden}
use Rattle.al_scope.proofs.Lists.{folded}
use Rattle.al_scope.proofs.seen_hiding.add_hidden.Goals as goal

pub loop-view-preserved : goal.loop-view-preserved
loop-view-preserved c =
    folded (λ (d : Declarations) (v : ViewKind). with_view d c.args.name.now (hidden c.args.names.now v)) c.args.answered.now c.loop-view.answered c.declare.new.self c.args.views.now c.loop-view.view-index c.view-item.result (omega arith) c.view-item.is
    c.loop-view.invariant
    (c.in_ok-declare.ensures.ok ∙ ap (λ (v : ViewKind). with_view c.loop-view.answered c.args.name.now v) c.in_ok-view.ensures)
