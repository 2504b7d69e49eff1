use Rattle.std.proofs.Common.{◌≡◌, ℕ, ◌+◌, ◌<◌, List, Option, length, map, get_or, ap, sym, subst, ◌∙◌, arith}
use Rattle.std.proofs.lemmas.List.{length-map}
use Rattle.al_view.specs.Symbols.{same_unit}
use Rattle.al_engine.specs.declared.objects.UnitObject.{UnitObject}
use Rattle.al_engine.specs.Objects.{WithObject}
use Rattle.al_view.specs.Symbols.{same_unit}
use Rattle.al_engine.specs.declared.objects.UnitObject.{UnitObject}
use Rattle.al_engine.specs.ObjectsSeen.{object_model}
use Rattle.al_engine.proofs.RenewLemmas.{FoundTo, another, seen-at, the-only}
use Rattle.al_engine.proofs.batch_renewing.place_of.Goals.{then-is_unit+else-is_some, else-is_unit}
use Rattle.al_engine.proofs.batch_renewing.place_of.Goals as goal

pub loop-at-preserved : goal.loop-at-preserved
loop-at-preserved c =
    let us : List WithObject = map object_model c.args.objects.now in
    let x : WithObject = object_model c.args.unit.now in
    let w : WithObject = object_model c.index-objects-at.result in
    let lt : c.loop-at.at < length us = omega (arith, c.loop-at-test.true, length-map c.args.objects.now object_model) in
    let is : w ≡ get_or us c.loop-at.at w = seen-at object_model c.args.objects.now c.loop-at.at c.index-objects-at.result c.loop-at-test.true c.index-objects-at.is in
    let unit_is : c.is_unit.result ≡ same_unit x.0 w.0 =
    c.is_unit.ensures ∙ ap (λ (u : UnitObject). same_unit u.key c.deref-in-loop-at.result.now.key) c.deref.ensures ∙ ap (λ (u : UnitObject). same_unit x.0 u.key) c.deref-in-loop-at.ensures in
    elim c.if-is_unit.branch [
      | then-is_unit+else-is_some b ↦
          subst (λ (f : Option ℕ). FoundTo x us (c.loop-at.at + 1) f) (sym b.found-is)
          (the-only x us c.loop-at.at w lt is (sym unit_is ∙ b.if-is_unit.true) c.loop-at.found (sym b.is_some.ensures ∙ b.if-is_some.false) c.loop-at.invariant)
      | else-is_unit b ↦ subst (λ (f : Option ℕ). FoundTo x us (c.loop-at.at + 1) f) (sym b.found-is) (another x us c.loop-at.at w lt is (sym unit_is ∙ b.if-is_unit.false) c.loop-at.found c.loop-at.invariant)
    ]
