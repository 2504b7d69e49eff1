use Rattle.std.proofs.Common.{◌≡◌, ◌∙◌, ◌++◌, ℕ, List, arith, take, refl, ap, sym}
use Rattle.std.proofs.lemmas.List.{take_all}
use Rattle.std.specs.List.{flat_map}
use Rattle.al_query.proofs.ToldLemmas.{names_answered-none}
use Rattle.al_check_start.specs.PrivateNames.{names_of}
use Rattle.al_check_start.proofs.Knowing.{asks-at, asks-both, asks-none, flat_map-more}
use Rattle.al_check_start.proofs.private_names.names_of_each.Goals as goal

pub loop-unit-init : goal.loop-unit-init
loop-unit-init g c = record {
  asked = refl;
  answered = λ t h. (h, c.new-names.ensures.items);
  asks = asks-none c.args.units.now c.args.recorder.now.log;
  others = λ h. h;
  names_answered = names_answered-none c.args.recorder.now.log c.new-names.result.items c.new-names.ensures.items;
}

pub loop-unit-preserved : goal.loop-unit-preserved
loop-unit-preserved g c =
    let i = c.loop-unit.invariant in
    let units = c.args.units.now in
    let n = c.loop-unit.unit-index in
    let unit = c.unit-item.result in
    record {
      asked = c.add_names.ensures.asked ∙ i.asked;
      answered = λ t h. let answered = c.in_ok-add_names.ensures.answered t h in
          let before = i.answered t answered.0 in
          (before.0, answered.1 ∙ ap (λ (l : List (List ℕ)). l ++ names_of t c.args.own.now unit) before.1 ∙ sym (flat_map-more (names_of t c.args.own.now) units n unit (omega arith) c.unit-item.is));
      asks = asks-both units c.args.recorder.now.log c.loop-unit.recorder.log c.add_names.new.recorder.log i.asks (asks-at units n unit c.loop-unit.recorder.log c.add_names.new.recorder.log (omega arith) c.unit-item.is c.in_ok-add_names.ensures.asks);
      others = λ h. c.in_ok-add_names.ensures.others (i.others h);
      names_answered = c.in_ok-add_names.ensures.names_answered i.names_answered;
    }

pub returns-clause-answered : goal.returns-clause-answered
returns-clause-answered g c t h =
    let before = c.loop-unit.invariant.answered t h in
    let all : take c.loop-unit.unit-index c.args.units.now ≡ c.args.units.now = take_all c.loop-unit.unit-index c.args.units.now (omega arith) in
    (before.0, before.1 ∙ ap (flat_map (names_of t c.args.own.now)) all)
