use Rattle.std.proofs.Common.{◌≡◌, ◌∙◌, ◌++◌, ◌∷◌, [], arith, take, refl, ap}
use Rattle.std.proofs.lemmas.List.{take_all}
use Rattle.al_scope.specs.Seen.{completion_seen_at, completions_seen_at}
use Rattle.al_scope.proofs.Lists.{mapped}
use Rattle.al_query.specs.declared.answer.Completion.{Completion}
use Rattle.al_query.proofs.AskLemmas.{asks_none, asks_then}
use Rattle.al_query.specs.Asked.{OfKnown, by_some_name}
use Rattle.al_scope.specs.Places.{place_units}
use Rattle.al_scope.proofs.seen.completions_seen_at.Goals as goal

pub loop-completion-init : goal.loop-completion-init
loop-completion-init g c = record {
  asked = refl;
  answered = λ t h. (h, c.empty-seen.ensures);
  asks = asks_none (OfKnown (place_units c.args.scope.now) by_some_name) c.args.recorder.now.log;
}

pub loop-completion-preserved : goal.loop-completion-preserved
loop-completion-preserved g c =
    let i = c.loop-completion.invariant in
    record {
      asked = c.completion_seen_at.ensures.asked ∙ i.asked;
      answered = λ t h. let answered = c.in_ok-completion_seen_at.ensures.answered t h in
          let before = i.answered t answered.0 in
          (before.0, mapped (completion_seen_at t c.args.scope.now) c.loop-completion.seen c.push.new.self c.args.completions.now c.loop-completion.completion-index c.completion-item.result (omega arith) c.completion-item.is before.1 (c.in_ok-push.ensures ∙ ap (λ (v : Completion). c.loop-completion.seen ++ v ∷ []) answered.1));
      asks = asks_then (OfKnown (place_units c.args.scope.now) by_some_name) c.args.recorder.now.log c.loop-completion.recorder.log c.completion_seen_at.new.recorder.log i.asks c.in_ok-completion_seen_at.ensures.asks;
    }

pub returns-clause-answered : goal.returns-clause-answered
returns-clause-answered g c t h =
    let before = c.loop-completion.invariant.answered t h in
    let all : take c.loop-completion.completion-index c.args.completions.now ≡ c.args.completions.now = take_all c.loop-completion.completion-index c.args.completions.now (omega arith) in
    (before.0, before.1 ∙ ap (completions_seen_at t c.args.scope.now) all)
