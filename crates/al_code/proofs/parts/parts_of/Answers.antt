use Rattle.std.proofs.Common.{◌≡◌, ◌++◌, List, ap, refl, subst, sym, ◌∙◌, arith, rules}
use Rattle.std.proofs.lemmas.List.{append-nil}
use Rattle.al_code.specs.Pieces.{Piece}
use Rattle.al_code.specs.Parts.{ArePartsBelow, parted_code}
use Rattle.al_code.specs.Templates.{address_of}
use Rattle.al_code.specs.declared.parts.Part.{Part}
use Rattle.al_view_typed.specs.ExpressionViews.{name_model}
use Rattle.al_view_typed.specs.declared.expression.Actual.TheViews.{sized-Component, sized-Indexed}
use Rattle.al_view_typed.specs.declared.expression.Typed.{size-Typed}
use Rattle.al_view_typed.specs.declared.expression.TypedName.{size-TypedName}
use Rattle.al_code.proofs.PartLemmas.{component_address, first_parted, indexed_address, object_address, part_pushed}
use Rattle.al_code.proofs.parts.parts_of.Goals as goal

pub loop-rest-init : goal.loop-rest-init
loop-rest-init c = (
  (λ depth. ap (λ (ps : List Part). address_of depth (name_model c.args.name.now) ++ parted_code depth ps) c.new-parts.ensures.items ∙ append-nil (address_of depth (name_model c.args.name.now))),
  subst (ArePartsBelow c.args.name.now) (sym c.new-parts.ensures.items) tt,
  omega arith,
)

pub loop-rest-preserved-in_ok-push-in-Component : goal.loop-rest-preserved-in_ok-push-in-Component
loop-rest-preserved-in_ok-push-in-Component c =
    let known = c.loop-rest.invariant in
    let pushed = c.in_ok-push-in-Component.ensures.items in
    let part : c.deref-rest.result.now ≡ c.in-Component.whole.value = search rules in (
      (λ depth. first_parted depth c.loop-rest.parts.items c.push.new.self.items _
          (address_of depth (name_model c.loop-rest.rest.now)) (address_of depth (name_model c.deref-rest.result.now)) (address_of depth (name_model c.args.name.now))
          pushed (component_address c.loop-rest.rest.now c.deref-rest.result.now c.in-Component.whole c.in-Component.offset c.in-Component.is part depth) (known.0 depth)),
      part_pushed c.args.name.now c.loop-rest.parts.items c.push.new.self.items _ pushed known.1 tt,
      omega (arith, ap size-TypedName part, ap size-TypedName c.in-Component.is, sized-Component c.in-Component.whole c.in-Component.offset, known.2),
    )

pub loop-rest-preserved : goal.loop-rest-preserved
loop-rest-preserved c =
    let known = c.loop-rest.invariant in
    let pushed = c.in_ok-push-in-Indexed.ensures.items in
    let part : c.deref-rest-in-Indexed.result.now ≡ c.in-Indexed.array.value = search rules in
    let at : c.deref.result.now ≡ c.in-Indexed.index.value = search rules in
    let is = ap size-TypedName c.in-Indexed.is in
    let size = sized-Indexed c.in-Indexed.array c.in-Indexed.index c.in-Indexed.bounds c.in-Indexed.words in (
      (λ depth. first_parted depth c.loop-rest.parts.items c.push-in-Indexed.new.self.items _
          (address_of depth (name_model c.loop-rest.rest.now)) (address_of depth (name_model c.deref-rest-in-Indexed.result.now)) (address_of depth (name_model c.args.name.now))
          pushed (indexed_address c.loop-rest.rest.now c.deref-rest-in-Indexed.result.now c.in-Indexed.array c.in-Indexed.index c.in-Indexed.bounds c.in-Indexed.words c.deref.result.now c.in-Indexed.bounds
          c.in-Indexed.is part at refl depth) (known.0 depth)),
      part_pushed c.args.name.now c.loop-rest.parts.items c.push-in-Indexed.new.self.items _ pushed known.1 (omega (arith, ap size-Typed at, is, size, known.2)),
      omega (arith, ap size-TypedName part, is, size, known.2),
    )

pub returns-in-Object-clause-code : goal.returns-in-Object-clause-code
returns-in-Object-clause-code c depth =
    ap (λ (ps : List Piece). ps ++ parted_code depth c.loop-rest.parts.items) (sym (object_address c.loop-rest.rest.now c.in-Object.place _ c.in-Object.is depth))
    ∙ c.loop-rest.invariant.0 depth
