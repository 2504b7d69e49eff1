use Rattle.std.proofs.Common.{◌≡◌, ◌∙◌, [], arith, ap, sym, subst, drop}
use Rattle.std.proofs.lemmas.List.{drop_all}
use Rattle.al_query.specs.Asked.{AsksOf, OfKnown}
use Rattle.al_query.specs.Reads.{Agrees, Log}
use Rattle.al_query.proofs.AskLemmas.{asks_then}
use Rattle.al_query_outcome.specs.ReadsLaw.{AsksOthers}
use Rattle.al_check_bounded.specs.Bounding.{allowed, bounded}
use Rattle.al_check_bounded.proofs.BoundLemmas.{agrees-more, agrees-past}
use Rattle.al_check_bounded.proofs.replayed.replay.Goals as goal
use Rattle.al_check_bounded.proofs.replayed.replay.Goals.{in-Some+in_ok-ask_if_allowed, in_default}

pub loop-i-preserved : goal.loop-i-preserved
loop-i-preserved g c =
    let i = c.loop-i.invariant in
    let b = c.args.bounds.now in
    let table = g.A.Answers.table c.args.recorder.now.asked in
    elim c.match-at.branch [
      | in-Some+in_ok-ask_if_allowed w ↦
          let now : c.match-at.recorder.log ≡ w.ask_if_allowed.new.recorder.log = ap (λ r. r.log) w.recorder-is in
          record {
            asked = ap (λ r. r.asked) w.recorder-is ∙ w.ask_if_allowed.ensures.asked ∙ i.asked;
            answered = λ t h. let one = w.in_ok-ask_if_allowed.ensures.answered t (subst (λ (l : Log). Agrees t l) now h) in
                let before = i.answered t one.0 in (
                  before.0,
                  agrees-more (bounded b table) (bounded b t) c.args.log.now c.loop-i.i (w.in-Some.query.now, w.in-Some._answer.now) (sym w.in-Some.ensures) c.requires
                      (one.1 ∙ ap (λ a. bounded b (g.A.Answers.table a) w.in-Some.query.now) i.asked) before.1,
                );
            asks = subst (λ (l : Log). AsksOf b.known (allowed b) c.args.recorder.now.log l) (sym now)
                (asks_then (OfKnown b.known (allowed b)) c.args.recorder.now.log c.loop-i.recorder.log w.ask_if_allowed.new.recorder.log i.asks w.in_ok-ask_if_allowed.ensures.asks);
            others = λ h. subst (λ (l : Log). AsksOthers b.unit l) (sym now) (w.in_ok-ask_if_allowed.ensures.others (i.others h));
          }
      | in_default w ↦
          let now : c.match-at.recorder.log ≡ c.loop-i.recorder.log = ap (λ r. r.log) w.recorder-is in
          record {
            asked = ap (λ r. r.asked) w.recorder-is ∙ i.asked;
            answered = λ t h. let before = i.answered t (subst (λ (l : Log). Agrees t l) now h) in
                (before.0, λ rest. before.1 (agrees-past (bounded b t) c.args.log.now c.loop-i.i (sym w.in_default.ensures)));
            asks = subst (λ (l : Log). AsksOf b.known (allowed b) c.args.recorder.now.log l) (sym now) i.asks;
            others = λ h. subst (λ (l : Log). AsksOthers b.unit l) (sym now) (i.others h);
          }
    ]

pub returns-clause-answered : goal.returns-clause-answered
returns-clause-answered g c t h =
    let before = c.loop-i.invariant.answered t h in
    let none : drop c.loop-i.i c.args.log.now ≡ [] = drop_all c.loop-i.i c.args.log.now (omega arith) in
    (before.0, before.1 (subst (λ (l : Log). Agrees (bounded c.args.bounds.now t) l) (sym none) tt))
