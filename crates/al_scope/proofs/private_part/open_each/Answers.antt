use Rattle.std.proofs.Common.{◌≡◌, ◌∷◌, ◌∙◌, List, ap, arith, drop, refl, sym}
use Rattle.std.proofs.lemmas.List.{at_drop_all}
use Rattle.al_base.specs.declared.unit_key.UnitKey.{UnitKey}
use Rattle.al_scope.specs.UnitPlaces.{outward_opened}
use Rattle.al_scope.proofs.UnitPlaceLemmas.{asks-both, asks-drop, asks-none, asks-same, first-of, opened-more}
use Rattle.al_scope.proofs.private_part.open_each.Goals as goal

pub loop-i-init : goal.loop-i-init
loop-i-init g c = record {
  asks = asks-none c.args.units.now c.args.recorder.now.log;
  asked = refl;
  answered = λ t h. (h, refl);
  depth = refl;
  mentioned = refl;
}

pub loop-i-preserved : goal.loop-i-preserved
loop-i-preserved g c =
    let i = c.loop-i.invariant in
    let units = c.args.units.now in
    let n = c.loop-i.i in
    let unit = c.index-units-i.result in
    let before = c.loop-i.recorder.log in
    let after = c.open_unless_model.new.recorder.log in
    let rest = c.nearer_than-nearer.result.now in
    let first : drop n units ≡ unit ∷ rest = first-of units n unit (omega arith) c.index-units-i.is ∙ ap (λ l. unit ∷ l) (sym c.nearer_than-nearer.ensures) in
    record {
      asked = c.open_unless_model.ensures.asked ∙ i.asked;
      asks = asks-both units c.args.recorder.now.log before after i.asks (asks-drop units n before after (asks-same (unit ∷ rest) (drop n units) before after (sym first) c.in_ok-open_unless_model.ensures.asks));
      answered = λ t h. let answered = c.in_ok-open_unless_model.ensures.answered t h in
          let so-far = i.answered t answered.0 in
          (so-far.0, ap (λ (l : List UnitKey). outward_opened t c.args.sees l c.open_unless_model.new.scope.regions) (sym c.nearer_than-nearer.ensures) ∙ opened-more t c.args.sees units n unit rest (outward_opened t c.args.sees units c.args.scope.now.regions) c.loop-i.scope.regions c.open_unless_model.new.scope.regions first so-far.1 answered.1);
      depth = c.open_unless_model.ensures.depth ∙ i.depth;
      mentioned = c.open_unless_model.ensures.mentioned ∙ i.mentioned;
    }

pub returns-clause-answered : goal.returns-clause-answered
returns-clause-answered g c t h =
    let so-far = c.loop-i.invariant.answered t h in
    let regions = c.loop-i.scope.regions in
    let none = at_drop_all (λ (l : List UnitKey). outward_opened t c.args.sees l regions) c.args.units.now c.loop-i.i (omega arith) in
    (so-far.0, sym none ∙ so-far.1)
