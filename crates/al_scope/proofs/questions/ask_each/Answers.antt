use Rattle.std.proofs.Common.{◌≡◌, ◌+◌, [], ◌∷◌, ◌++◌, arith, ◌∙◌, length, take, sym, ap}
use Rattle.std.proofs.lemmas.List.{take_all, take_more}
use Rattle.al_scope.specs.Visible.{declared_by}
use Rattle.al_scope.proofs.HidingLemmas.{flat_map-take_more}
use Rattle.al_scope.proofs.PartLemmas.{parts-of, parts-then}
use Rattle.al_scope.proofs.questions.ask_each.Goals as goal

pub loop-part-preserved : goal.loop-part-preserved
loop-part-preserved g c =
    let i = c.loop-part.invariant in
    let parts = c.args.parts.now in
    let n = c.loop-part.part-index in
    let part = c.part-item.result in
    record {
      asked = c.ask_more.ensures.asked ∙ i.asked;
      asks = let more : take n parts ++ part ∷ [] ≡ take (n + 1) parts = sym (take_more parts n part (omega arith) ∙ ap (λ x. take n parts ++ x ∷ []) (sym c.part-item.is)) in
          parts-of (take n parts ++ part ∷ []) (take (n + 1) parts) c.args.name.now c.args.recorder.now.log c.ask_more.new.recorder.log more
          (parts-then (take n parts) (part ∷ []) c.args.name.now c.args.recorder.now.log c.loop-part.recorder.log c.ask_more.new.recorder.log i.asks c.in_ok-ask_more.ensures.asks);
      answered = λ t h. let answered = c.in_ok-ask_more.ensures.answered t h in
          let before = i.answered t answered.0 in
          (before.0, rw (flat_map-take_more (declared_by t c.args.mentioned.now c.args.name.now) parts n part (omega arith), ← c.part-item.is, ← before.1) answered.1);
      none = λ e. absurd (omega arith);
    }

pub returns-clause-answered : goal.returns-clause-answered
returns-clause-answered g c t h =
    let before = c.loop-part.invariant.answered t h in
    let e : take c.loop-part.part-index c.args.parts.now ≡ c.args.parts.now = take_all c.loop-part.part-index c.args.parts.now (omega arith) in
    (before.0, rw e at before.1)

pub returns-clause-asks : goal.returns-clause-asks
returns-clause-asks g c =
    let e : take c.loop-part.part-index c.args.parts.now ≡ c.args.parts.now = take_all c.loop-part.part-index c.args.parts.now (omega arith) in
    parts-of (take c.loop-part.part-index c.args.parts.now) c.args.parts.now c.args.name.now c.args.recorder.now.log c.loop-part.recorder.log e c.loop-part.invariant.asks

pub returns-clause-none : goal.returns-clause-none
returns-clause-none g c e =
    let at_end : c.loop-part.part-index ≡ 0 = omega (arith, ap length e) in
    c.loop-part.invariant.none at_end
