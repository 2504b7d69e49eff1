use Rattle.std.proofs.Common.{◌≡◌, ◌∙◌, ◌++◌, ◌∷◌, [], arith, take, refl, ap}
use Rattle.std.proofs.lemmas.List.{take_all}
use Rattle.al_scope.specs.Seen.{all_seen_at, seen_at}
use Rattle.al_scope.proofs.Lists.{mapped}
use Rattle.al_view.specs.declared.view.ViewKind.{ViewKind}
use Rattle.al_query.proofs.AskLemmas.{asks_none, asks_then}
use Rattle.al_query.specs.Asked.{OfKnown, by_some_name}
use Rattle.al_scope.specs.Places.{place_units}
use Rattle.al_scope.proofs.seen.all_seen_at.Goals as goal

pub loop-view-init : goal.loop-view-init
loop-view-init g c = record {
  asked = refl;
  answered = λ t h. (h, c.new-seen.ensures);
  asks = asks_none (OfKnown (place_units c.args.scope.now) by_some_name) c.args.recorder.now.log;
}

pub loop-view-preserved : goal.loop-view-preserved
loop-view-preserved g c =
    let i = c.loop-view.invariant in
    record {
      asked = c.seen_at.ensures.asked ∙ i.asked;
      answered = λ t h. let answered = c.in_ok-seen_at.ensures.answered t h in
          let before = i.answered t answered.0 in
          (before.0, mapped (seen_at t c.args.scope.now) c.loop-view.seen c.push.new.self c.args.views.now c.loop-view.view-index c.view-item.result (omega arith) c.view-item.is before.1 (c.in_ok-push.ensures ∙ ap (λ (v : ViewKind). c.loop-view.seen ++ v ∷ []) answered.1));
      asks = asks_then (OfKnown (place_units c.args.scope.now) by_some_name) c.args.recorder.now.log c.loop-view.recorder.log c.seen_at.new.recorder.log i.asks c.in_ok-seen_at.ensures.asks;
    }

pub returns-clause-answered : goal.returns-clause-answered
returns-clause-answered g c t h =
    let before = c.loop-view.invariant.answered t h in
    let all : take c.loop-view.view-index c.args.views.now ≡ c.args.views.now = take_all c.loop-view.view-index c.args.views.now (omega arith) in
    (before.0, before.1 ∙ ap (all_seen_at t c.args.scope.now) all)
