use Rattle.std.proofs.Common.{List, ap, subst}
use Rattle.std.proofs.lemmas.Result.{IfOk-weaker}
use Rattle.std.specs.List.{Contains}
use Rattle.al_view.specs.declared.view.ViewKind.{ViewKind}
use Rattle.al_query.specs.Asked.{OfKnown}
use Rattle.al_query.proofs.AskLemmas.{asks_none}
use Rattle.al_view_typed.specs.UnitTrees.{unit_model}
use Rattle.al_query_outcome.specs.Tables.{interface_of}
use Rattle.al_check_bounded.specs.Bounding.{allowed, bounded}
use Rattle.al_check_promises.specs.SelfChecks.{is_kept}
use Rattle.al_check_promises.proofs.More.{same_test}
use Rattle.al_check_bounded.specs.Questions.{shown_by}
use Rattle.al_check_bounded.proofs.Bounding.{passes}
use Rattle.al_check_bounded.proofs.shown.shown_views.Goals as goal

pub returns-then-kept-clause-answered : goal.returns-then-kept-clause-answered
returns-then-kept-clause-answered g c t h =
    let b = c.args.bounds.now in
    let s = c.args.sound.now in
    let i = interface_of s.properties s.parts in
    let tree = unit_model s.tree in
    let all = shown_by c.args.wanted.now (bounded b t) in
    let among : (v : ViewKind) → Contains c.in_ok-recorded.recorded v → Contains (shown_by c.args.wanted.now (bounded c.args.bounds.now t)) v = c.in_ok-recorded.ensures (bounded b t) (c.requires t h) in (
      h,
      record {
        among = among;
        same = same_test b.unit c.in_ok-recorded.recorded all i tree among (passes b.unit _ c.in_ok-recorded.recorded i tree c.in_ok-kept.kept c.as_slice.ensures c.in_ok-kept.ensures c.if-kept.true);
      },
    )

pub returns-then-kept-clause-asks : goal.returns-then-kept-clause-asks
returns-then-kept-clause-asks g c = let b = c.args.bounds.now in asks_none (OfKnown b.known (allowed b)) c.args.recorder.now.log

pub returns-clause-answered : goal.returns-clause-answered
returns-clause-answered g c =
    let b = c.args.bounds.now in
    let s = c.args.sound.now in
    let i = interface_of s.properties s.parts in
    let tree = unit_model s.tree in
    λ t h.
    let answered = c.in_ok-views.ensures.answered t h in (
      answered.0,
      record {
        among = λ v k. subst (λ (vs : List ViewKind). Contains vs v) answered.1 k;
        same = ap (λ (vs : List ViewKind). is_kept b.unit vs i tree) answered.1;
      },
    )
