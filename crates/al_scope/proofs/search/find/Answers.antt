use Rattle.std.proofs.Common.{ap, ◌∙◌}
use Rattle.al_view.specs.Interfaces.{views_of}
use Rattle.al_scope.specs.PartialViews.{without_partial}
use Rattle.al_scope.proofs.HidingLemmas.{found-is, views-are}
use Rattle.al_scope.proofs.PartLemmas.{parts-of}
use Rattle.al_scope.proofs.search.find.Goals as goal

pub returns-clause-answered : goal.returns-clause-answered
returns-clause-answered g c t h =
    let answered = c.in_ok-views.ensures.answered t h in
    let all = views-are t c.args.mentioned.now c.args.name.now c.args.region.now.parts c.as_slice.result.now c.in_ok-views.views c.views.result.now (views_of c.args.region.now.declared c.args.name.now) c.append_some.new.views c.in_ok-append_some.ensures.is answered.1 c.as_slice.ensures c.views.ensures in
    (answered.0, found-is _ _ _ _ c.contains-begun.ensures (c.in_ok-views-2.ensures.is ∙ ap without_partial all))

pub returns-clause-asks : goal.returns-clause-asks
returns-clause-asks g c = parts-of c.as_slice.result.now c.args.region.now.parts c.args.name.now c.args.recorder.now.log c.ask_each.new.recorder.log c.as_slice.ensures c.in_ok-views.ensures.asks
