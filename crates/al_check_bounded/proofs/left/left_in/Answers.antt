use Rattle.std.proofs.Common.{◌≡◌, ◌∙◌, ◌&&◌, Bool, ap, if◌then◌else◌}
use Rattle.std.proofs.lemmas.Result.{IfOk-weaker, on_ok_weaker}
use Rattle.al_base.specs.declared.unit_key.UnitKey.{UnitKey}
use Rattle.al_query.specs.Answers.{views_of}
use Rattle.al_query.specs.Asked.{OfKnown}
use Rattle.al_query.specs.Known.{body}
use Rattle.al_query.specs.declared.query.Property.TheVariants.{Kind}
use Rattle.al_query.specs.declared.query.Query.TheVariants.{Named, Of}
use Rattle.al_query.proofs.AskLemmas.{asks_then}
use Rattle.al_query_outcome.specs.Left.{body_named, first_view, last_of, one_view, separate}
use Rattle.al_query_outcome.specs.ReadsLaw.{subunit}
use Rattle.al_view.specs.declared.part.Part.TheVariants.{Stub}
use Rattle.al_check_bounded.specs.Bounding.{allowed, bounded, may_ask}
use Rattle.al_check_bounded.proofs.left.left_in.Goals as goal

pub returns-clause-answered : goal.returns-clause-answered
returns-clause-answered g c =
    let b = c.args.bounds.now in
    let parent = c.args.parent.now in
    let name = b.unit.name in
    IfOk-weaker c.stub_left.result _ _ (λ v f t h.
    let s = f t h in
    let there = c.in_ok-is_body.ensures.answered t s.0 in
    let of : (if c.in_ok-is_body.is_body then body parent else subunit parent) ≡ body_named (bounded b t) parent = ap (λ (x : Bool). if x then body parent else subunit parent) there.1 in (
      there.0,
      (
        s.1.0 ∙ ap (λ (u : UnitKey). one_view (first_view (views_of (bounded b t (Named u (Stub (last_of name)) separate))))) of,
        s.1.1 ∙ ap (λ (k : Bool). k && may_ask b (Named (if c.in_ok-is_body.is_body then body parent else subunit parent) (Stub (last_of name)) separate)) c.in_ok-kind.ensures
            ∙ ap (λ (u : UnitKey). may_ask b (Of (body parent) Kind) && may_ask b (Named u (Stub (last_of name)) separate)) of,
      ),
    )) c.stub_left.ensures.answered

pub returns-clause-asks : goal.returns-clause-asks
returns-clause-asks g c =
    let b = c.args.bounds.now in
    on_ok_weaker c.stub_left.result
    (λ last. asks_then (OfKnown b.known (allowed b)) c.args.recorder.now.log c.has_view.new.recorder.log c.stub_left.new.recorder.log c.in_ok-is_body.ensures.asks last) c.stub_left.ensures.asks

pub returns-clause-others : goal.returns-clause-others
returns-clause-others g c = on_ok_weaker c.stub_left.result (λ last before. last (c.in_ok-is_body.ensures.others before)) c.stub_left.ensures.others
