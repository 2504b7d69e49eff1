use Rattle.std.proofs.Common.{◌≡◌, ℕ, ◌&&◌, ◌+◌, ◌<◌, ◌∙◌, Bool, List, arith, drop, length, get_or, ap, refl, sym}
use Rattle.std.specs.List.{list_all}
use Rattle.std.proofs.lemmas.List.{at_drop_more, drop_all}
use Rattle.al_base.specs.declared.unit_key.UnitKey.{UnitKey}
use Rattle.al_check_start.specs.Around.{opens_mentioned}
use Rattle.al_check_start.proofs.around.all_open_mentioned.Goals as goal

-- the next one decides over what is left
next-is : (f : UnitKey → Bool) (us : List UnitKey) (i : ℕ) (u : UnitKey) (b : Bool) → i < length us → u ≡ get_or us i u → f u ≡ b
    → list_all f (drop i us) ≡ (b && list_all f (drop (i + 1) us))
next-is f us i u b h e is =
    at_drop_more (list_all f) us i u h ∙ ap (λ (x : UnitKey). f x && list_all f (drop (i + 1) us)) (sym e) ∙ ap (λ (y : Bool). y && list_all f (drop (i + 1) us)) is

pub loop-unit-init : goal.loop-unit-init
loop-unit-init g c = record {
  asked = refl;
  answered = λ t h. (h, refl);
}

pub loop-unit-preserved : goal.loop-unit-preserved
loop-unit-preserved g c =
    let i = c.loop-unit.invariant in
    let unit = c.unit-item.result in
    record {
      asked = c.opens_mentioned.ensures.asked ∙ i.asked;
      answered = λ t h. let answered = c.in_ok-does.ensures.answered t h in
          let before = i.answered t answered.0 in
          let opens = opens_mentioned t c.args.packages.now in
          (before.0, before.1 ∙ next-is opens c.args.units.now c.loop-unit.unit-index unit _ (omega arith) c.unit-item.is (sym answered.1 ∙ c.if-not-does.false));
    }

pub returns-then-not-does-clause-answered : goal.returns-then-not-does-clause-answered
returns-then-not-does-clause-answered g c t h =
    let answered = c.in_ok-does.ensures.answered t h in
    let before = c.loop-unit.invariant.answered t answered.0 in
    let opens = opens_mentioned t c.args.packages.now in
    (before.0, sym (before.1 ∙ next-is opens c.args.units.now c.loop-unit.unit-index c.unit-item.result _ (omega arith) c.unit-item.is (sym answered.1 ∙ c.if-not-does.true)))

pub returns-clause-answered : goal.returns-clause-answered
returns-clause-answered g c t h =
    let before = c.loop-unit.invariant.answered t h in
    (before.0, sym (before.1 ∙ ap (list_all (opens_mentioned t c.args.packages.now)) (drop_all c.loop-unit.unit-index c.args.units.now (omega arith))))
