use Rattle.std.proofs.Common.{◌≡◌, ◌∙◌, ◌++◌, List, arith, take, ap, sym}
use Rattle.std.proofs.lemmas.List.{take_all}
use Rattle.std.specs.List.{flat_map}
use Rattle.al_base.specs.declared.unit_key.UnitKey.{UnitKey}
use Rattle.al_check_start.specs.Starts.{mentions_of}
use Rattle.al_check_start.proofs.Knowing.{asks-at, asks-both, flat_map-more}
use Rattle.al_check_start.proofs.mentions.mentions_of_each.Goals as goal

pub loop-unit-preserved : goal.loop-unit-preserved
loop-unit-preserved g c =
    let i = c.loop-unit.invariant in
    let units = c.args.units.now in
    let n = c.loop-unit.unit-index in
    let unit = c.unit-item.result in
    record {
      asked = c.add_mentions.ensures.asked ∙ i.asked;
      answered = λ t h. let answered = c.in_ok-add_mentions.ensures.answered t h in
          let before = i.answered t answered.0 in
          (before.0, answered.1 ∙ ap (λ (l : List UnitKey). l ++ mentions_of t c.args.own.now unit) before.1 ∙ sym (flat_map-more (mentions_of t c.args.own.now) units n unit (omega arith) c.unit-item.is));
      asks = asks-both units c.args.recorder.now.log c.loop-unit.recorder.log c.add_mentions.new.recorder.log i.asks (asks-at units n unit c.loop-unit.recorder.log c.add_mentions.new.recorder.log (omega arith) c.unit-item.is c.in_ok-add_mentions.ensures.asks);
      others = λ h. c.in_ok-add_mentions.ensures.others (i.others h);
      learned = c.in_ok-add_mentions.ensures.learned i.learned;
    }

pub returns-clause-answered : goal.returns-clause-answered
returns-clause-answered g c t h =
    let before = c.loop-unit.invariant.answered t h in
    let all : take c.loop-unit.unit-index c.args.units.now ≡ c.args.units.now = take_all c.loop-unit.unit-index c.args.units.now (omega arith) in
    (before.0, before.1 ∙ ap (flat_map (mentions_of t c.args.own.now)) all)
