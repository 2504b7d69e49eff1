use Rattle.std.proofs.Common.{◌≡◌, List, take, refl, ap, ◌∙◌, arith}
use Rattle.std.proofs.lemmas.List.{take_all}
use Rattle.al_overload_lookup.specs.declared.denoted.Names.{Names}
use Rattle.al_overload_lookup.proofs.Folds.{folded}
use Rattle.al_overload_lookup.specs.Lookups.{asked_units, selected_in, with_each, with_selected}
use Rattle.al_query.proofs.AskLemmas.{asks_none, asks_then}
use Rattle.al_query.specs.Asked.{OfKnown, by_some_name}
use Rattle.al_view.specs.declared.view.ViewKind.{ViewKind}
use Rattle.al_overload_lookup.proofs.select.add_each.Goals as goal

pub loop-view-init : goal.loop-view-init
loop-view-init g c = record {
  asked = refl;
  answered = λ t h. (h, refl);
  asks = asks_none (OfKnown (asked_units c.args.scope.now c.args.packages.now) by_some_name) c.args.recorder.now.log;
}

pub loop-view-preserved : goal.loop-view-preserved
loop-view-preserved g c =
    let i = c.loop-view.invariant in
    record {
      asked = c.add_selected.ensures.asked ∙ i.asked;
      answered = λ t h. let answered = c.in_ok-add_selected.ensures.answered t h in
          let before = i.answered t answered.0 in
          (before.0, folded (λ (found : Names) (v : ViewKind). with_selected c.args.key.now v found (selected_in t c.args.scope.now c.args.packages.now c.args.name.now v)) c.args.names.now c.loop-view.names c.add_selected.new.names c.args.views.now c.loop-view.view-index c.view-item.result (omega arith) c.view-item.is before.1 answered.1);
      asks = asks_then (OfKnown (asked_units c.args.scope.now c.args.packages.now) by_some_name) c.args.recorder.now.log c.loop-view.recorder.log c.add_selected.new.recorder.log i.asks c.in_ok-add_selected.ensures.asks;
    }

pub returns-clause-answered : goal.returns-clause-answered
returns-clause-answered g c t h =
    let before = c.loop-view.invariant.answered t h in
    let all : take c.loop-view.view-index c.args.views.now ≡ c.args.views.now = take_all c.loop-view.view-index c.args.views.now (omega arith) in
    (before.0, before.1 ∙ ap (λ (vs : List ViewKind). with_each t c.args.scope.now c.args.packages.now c.args.key.now c.args.name.now c.args.names.now vs) all)
