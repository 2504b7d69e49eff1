use Rattle.std.proofs.Common.{◌≡◌, ◌++◌, ◌∙◌, List, arith, take, refl, ap, sym}
use Rattle.std.specs.List.{flat_map}
use Rattle.std.proofs.lemmas.List.{take_all}
use Rattle.al_base.specs.declared.unit_key.UnitKey.{UnitKey}
use Rattle.al_scope.proofs.HidingLemmas.{append-none}
use Rattle.al_scope.proofs.Lists.{flat_more}
use Rattle.al_check_start.specs.UnitsAt.{private_names_of}
use Rattle.al_check_start.proofs.hidden.add_units.Goals as goal

pub loop-unit-init : goal.loop-unit-init
loop-unit-init g c = record {
  asked = refl;
  answered = λ t h. (h, sym (append-none c.args.hidden.now));
}

pub loop-unit-preserved : goal.loop-unit-preserved
loop-unit-preserved g c =
    let i = c.loop-unit.invariant in
    record {
      asked = c.add_unit.ensures.asked ∙ i.asked;
      answered = λ t h. let answered = c.in_ok-add_unit.ensures.answered t h in
          let before = i.answered t answered.0 in
          (before.0, flat_more (private_names_of t) c.args.hidden.now c.loop-unit.hidden c.add_unit.new.hidden c.args.units.now c.loop-unit.unit-index c.unit-item.result (omega arith) c.unit-item.is before.1 answered.1);
    }

pub returns-clause-answered : goal.returns-clause-answered
returns-clause-answered g c t h =
    let before = c.loop-unit.invariant.answered t h in
    let all : take c.loop-unit.unit-index c.args.units.now ≡ c.args.units.now = take_all c.loop-unit.unit-index c.args.units.now (omega arith) in
    (before.0, before.1 ∙ ap (λ (l : List UnitKey). c.args.hidden.now ++ flat_map (private_names_of t) l) all)
