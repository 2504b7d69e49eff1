use Rattle.std.proofs.Common.{◌≡◌, ◌∙◌, ◌++◌, List, arith, take, refl, ap, sym}
use Rattle.std.proofs.lemmas.List.{take_all}
use Rattle.al_scope.specs.Seen.{full_if_private, full_views}
use Rattle.al_scope.specs.Recasts.{operation_types}
use Rattle.al_scope.proofs.HidingLemmas.{append-none}
use Rattle.al_scope.proofs.Lists.{nested_more}
use Rattle.al_view.specs.declared.types.TypeView.{TypeView}
use Rattle.al_view.specs.declared.view.Operation.{Operation}
use Rattle.al_query.proofs.AskLemmas.{asks_none, asks_then}
use Rattle.al_query.specs.Asked.{OfKnown, by_some_name}
use Rattle.al_scope.specs.Places.{place_units}
use Rattle.al_scope.proofs.seen.add_operations.Goals as goal

pub loop-operation-init : goal.loop-operation-init
loop-operation-init g c = record {
  asked = refl;
  answered = λ t h. (h, sym (append-none c.args.recasts.now));
  asks = asks_none (OfKnown (place_units c.args.scope.now) by_some_name) c.args.recorder.now.log;
}

pub loop-operation-preserved : goal.loop-operation-preserved
loop-operation-preserved g c =
    let i = c.loop-operation.invariant in
    record {
      asked = c.add_fulls.ensures.asked ∙ i.asked;
      answered = λ t h. let answered = c.in_ok-add_fulls.ensures.answered t h in
          let before = i.answered t answered.0 in
          (before.0, nested_more (full_if_private t c.args.scope.now) (λ (o : Operation). o.subprogram.types) c.args.recasts.now c.loop-operation.recasts c.add_fulls.new.recasts c.args.operations.now c.loop-operation.operation-index c.operation-item.result (omega arith) c.operation-item.is before.1 (answered.1 ∙ ap (λ (l : List TypeView). c.loop-operation.recasts ++ full_views t c.args.scope.now l) c.as_slice-types.ensures));
      asks = asks_then (OfKnown (place_units c.args.scope.now) by_some_name) c.args.recorder.now.log c.loop-operation.recorder.log c.add_fulls.new.recorder.log i.asks c.in_ok-add_fulls.ensures.asks;
    }

pub returns-clause-answered : goal.returns-clause-answered
returns-clause-answered g c t h =
    let before = c.loop-operation.invariant.answered t h in
    let all : take c.loop-operation.operation-index c.args.operations.now ≡ c.args.operations.now = take_all c.loop-operation.operation-index c.args.operations.now (omega arith) in
    (before.0, before.1 ∙ ap (λ (l : List Operation). c.args.recasts.now ++ full_views t c.args.scope.now (operation_types l)) all)
