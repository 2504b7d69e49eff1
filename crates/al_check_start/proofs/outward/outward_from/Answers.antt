use Rattle.std.proofs.Common.{◌≡◌, ◌∙◌, ◌∷◌, [], ◌++◌, ◌+◌, ◌-◌, ◌<◌, List, Option, ap, sym, subst, append-nil, append_assoc, arith}
use Rattle.al_base.specs.declared.unit_key.UnitKey.{UnitKey}
use Rattle.al_query.specs.Known.{AreKnown, known_after}
use Rattle.al_check_start.specs.Starts.{IsKnown, as_list, outward}
use Rattle.al_check_start.proofs.Knowing.{asks-both, asks-one_known, known-asked, known-join, outward-done, outward-none, outward-step}
use Rattle.al_check_start.proofs.outward.outward_from.Goals as goal

pub returns-in_default-clause-answered : goal.returns-in_default-clause-answered
returns-in_default-clause-answered g c t h =
    let before = c.loop-i.invariant.answered t h in
    let us = c.loop-i.units.items in
    let own = c.args.own.now in
    let left = c.args.most - c.loop-i._i in
    let none : outward t own left c.loop-i.next ≡ [] = ap (λ (o : Option UnitKey). outward t own left o) c.in_default.is ∙ outward-none t own left in
    (before.0, sym (append-nil us) ∙ ap (λ (l : List UnitKey). us ++ l) (sym none) ∙ before.1)

pub loop-i-preserved : goal.loop-i-preserved
loop-i-preserved g c =
    let i = c.loop-i.invariant in
    let base = as_list c.args.first in
    let own = c.args.own.now in
    let unit = c.in-Some.unit in
    let us = c.loop-i.units.items in
    let old = c.args.recorder.now.log in
    let mid = c.loop-i.recorder.log in
    let new = c.parent_at.new.recorder.log in
    let next = c.in_ok-next.next in
    let rest = c.args.most - (c.loop-i._i + 1) in
    let before_end : c.loop-i._i < c.args.most = omega arith in
    let known = subst (λ (o : Option UnitKey). IsKnown (known_after base mid) o) c.in-Some.is i.next in
    let one = asks-one_known base unit mid new known c.in_ok-next.ensures.asks in
    record {
      asked = c.parent_at.ensures.asked ∙ i.asked;
      answered = λ t h. let answered = c.in_ok-next.ensures.answered t h in
          let before = i.answered t answered.0 in (
            before.0,
            ap (λ (l : List UnitKey). l ++ outward t own rest next) c.in_ok-push.ensures.items
                ∙ append_assoc us (unit ∷ []) (outward t own rest next)
                ∙ ap (λ (l : List UnitKey). us ++ l) (sym (outward-step t own unit c.args.most c.loop-i._i next before_end answered.1))
                ∙ ap (λ (o : Option UnitKey). us ++ outward t own (c.args.most - c.loop-i._i) o) (sym c.in-Some.is)
                ∙ before.1,
          );
      asks = asks-both base old mid new i.asks one;
      others = λ h. c.in_ok-next.ensures.others (i.others h);
      next = c.in_ok-next.ensures.known base;
      known = subst (λ (l : List UnitKey). AreKnown (known_after base new) l) (sym c.in_ok-push.ensures.items)
          (known-join (known_after base new) us (unit ∷ []) (known-asked base base us mid new one i.known) (known-asked base base (unit ∷ []) mid new one (known, tt)));
    }

pub returns-clause-answered : goal.returns-clause-answered
returns-clause-answered g c t h =
    let before = c.loop-i.invariant.answered t h in
    let us = c.loop-i.units.items in
    let own = c.args.own.now in
    let left : c.args.most - c.loop-i._i ≡ 0 = omega arith in
    (before.0, sym (append-nil us) ∙ ap (λ (l : List UnitKey). us ++ l) (sym (outward-done t own c.args.most c.loop-i._i c.loop-i.next left)) ∙ before.1)
