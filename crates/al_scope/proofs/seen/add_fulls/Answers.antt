use Rattle.std.proofs.Common.{◌≡◌, ◌∙◌, ◌++◌, List, arith, take, refl, ap, sym}
use Rattle.std.proofs.lemmas.List.{take_all}
use Rattle.al_scope.specs.Seen.{full_if_private, full_views}
use Rattle.al_scope.proofs.HidingLemmas.{append-none}
use Rattle.al_scope.proofs.Lists.{flat_more}
use Rattle.al_view.specs.declared.types.TypeView.{TypeView}
use Rattle.al_query.proofs.AskLemmas.{asks_none, asks_then}
use Rattle.al_query.specs.Asked.{OfKnown, by_some_name}
use Rattle.al_scope.specs.Places.{place_units}
use Rattle.al_scope.proofs.seen.add_fulls.Goals as goal

pub loop-of-init : goal.loop-of-init
loop-of-init g c = record {
  asked = refl;
  answered = λ t h. (h, sym (append-none c.args.recasts.now));
  asks = asks_none (OfKnown (place_units c.args.scope.now) by_some_name) c.args.recorder.now.log;
}

pub loop-of-preserved : goal.loop-of-preserved
loop-of-preserved g c =
    let i = c.loop-of.invariant in
    record {
      asked = c.add_full.ensures.asked ∙ i.asked;
      answered = λ t h. let answered = c.in_ok-add_full.ensures.answered t h in
          let before = i.answered t answered.0 in
          (before.0, flat_more (full_if_private t c.args.scope.now) c.args.recasts.now c.loop-of.recasts c.add_full.new.recasts c.args.types.now c.loop-of.of-index c.of-item.result (omega arith) c.of-item.is before.1 answered.1);
      asks = asks_then (OfKnown (place_units c.args.scope.now) by_some_name) c.args.recorder.now.log c.loop-of.recorder.log c.add_full.new.recorder.log i.asks c.in_ok-add_full.ensures.asks;
    }

pub returns-clause-answered : goal.returns-clause-answered
returns-clause-answered g c t h =
    let before = c.loop-of.invariant.answered t h in
    let all : take c.loop-of.of-index c.args.types.now ≡ c.args.types.now = take_all c.loop-of.of-index c.args.types.now (omega arith) in
    (before.0, before.1 ∙ ap (λ (l : List TypeView). c.args.recasts.now ++ full_views t c.args.scope.now l) all)
