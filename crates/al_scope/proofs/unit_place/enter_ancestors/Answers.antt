use Rattle.std.proofs.Common.{◌≡◌, ◌∷◌, ◌∙◌, List, ap, arith, drop, refl, sym}
use Rattle.std.proofs.lemmas.List.{at_drop_all}
use Rattle.al_base.specs.declared.unit_key.UnitKey.{UnitKey}
use Rattle.al_scope.specs.UnitPlaces.{inward}
use Rattle.al_scope.proofs.UnitPlaceLemmas.{asks-both, asks-drop, asks-none, asks-same, first-of, inward-more}
use Rattle.al_scope.proofs.unit_place.enter_ancestors.Goals as goal

pub loop-i-init : goal.loop-i-init
loop-i-init g c = record {
  asks = asks-none c.args.units.now c.args.recorder.now.log;
  asked = refl;
  answered = λ t h. (h, refl);
  mentioned = refl;
}

pub loop-i-preserved : goal.loop-i-preserved
loop-i-preserved g c =
    let i = c.loop-i.invariant in
    let units = c.args.units.now in
    let n = c.loop-i.i in
    let unit = c.index-units-i.result in
    let before = c.loop-i.recorder.log in
    let after = c.enter_ancestor.new.recorder.log in
    let rest = c.nearer_than-nearer.result.now in
    let front : drop n units ≡ unit ∷ rest = first-of units n unit (omega arith) c.index-units-i.is ∙ ap (λ l. unit ∷ l) (sym c.nearer_than-nearer.ensures) in
    record {
      asked = c.enter_ancestor.ensures.asked ∙ i.asked;
      asks = asks-both units c.args.recorder.now.log before after i.asks (asks-drop units n before after (asks-same (unit ∷ rest) (drop n units) before after (sym front) c.in_ok-enter_ancestor.ensures.asks));
      answered = λ t h. let answered = c.in_ok-enter_ancestor.ensures.answered t h in
          let so-far = i.answered t answered.0 in
          (so-far.0, ap (λ (l : List UnitKey). inward t c.args.sees l c.enter_ancestor.new.scope.regions) (sym c.nearer_than-nearer.ensures) ∙ inward-more t c.args.sees units n unit rest (inward t c.args.sees units c.args.scope.now.regions) c.loop-i.scope.regions c.enter_ancestor.new.scope.regions front so-far.1 answered.1);
      mentioned = c.enter_ancestor.ensures.mentioned ∙ i.mentioned;
    }

pub returns-clause-answered : goal.returns-clause-answered
returns-clause-answered g c t h =
    let so-far = c.loop-i.invariant.answered t h in
    let regions = c.loop-i.scope.regions in
    let none = at_drop_all (λ (l : List UnitKey). inward t c.args.sees l regions) c.args.units.now c.loop-i.i (omega arith) in
    (so-far.0, sym none ∙ so-far.1)
