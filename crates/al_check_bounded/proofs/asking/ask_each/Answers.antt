use Rattle.std.proofs.Common.{◌≡◌, ◌∙◌, ◌++◌, arith, take, ap, refl}
use Rattle.std.proofs.lemmas.List.{take_all}
use Rattle.std.specs.List.{flat_map}
use Rattle.al_check_bounded.specs.Questions.{answer_views}
use Rattle.al_check_bounded.proofs.Joined.{append-none, views-more}
use Rattle.al_check_bounded.proofs.asking.ask_each.Goals as goal

pub loop-query-init : goal.loop-query-init
loop-query-init g c = record { asked = refl; answered = λ t h. (h, append-none c.args.found.now.items) }

pub loop-query-preserved : goal.loop-query-preserved
loop-query-preserved g c =
    let i = c.loop-query.invariant in
    record {
      asked = c.ask_one.ensures.asked ∙ i.asked;
      answered = λ t h. let answered = c.in_ok-ask_one.ensures.answered t h in
          let before = i.answered t answered.0 in
          (before.0, views-more (λ q. answer_views (t q)) c.args.queries.now c.loop-query.query-index c.query-item.result c.args.found.now.items c.loop-query.found.items c.ask_one.new.found.items (omega arith) c.query-item.is before.1 answered.1);
    }

pub returns-clause-answered : goal.returns-clause-answered
returns-clause-answered g c t h =
    let before = c.loop-query.invariant.answered t h in
    let all : take c.loop-query.query-index c.args.queries.now ≡ c.args.queries.now = take_all c.loop-query.query-index c.args.queries.now (omega arith) in
    (before.0, before.1 ∙ ap (λ qs. c.args.found.now.items ++ flat_map (λ q. answer_views (t q)) qs) all)
