use Rattle.std.proofs.Common.{◌≡◌, ℕ, ◌+◌, List, length, option_map, map, set, sym, ap, subst, arith, ◌∙◌}
use Rattle.std.specs.Vec.{with_items}
use Rattle.std.proofs.lemmas.List.{with_items_is}
use Rattle.al_link_image.specs.declared.parts.ImageObject.{ImageObject}
use Rattle.al_link_image.specs.declared.parts.ImageParts.{ImageParts}
use Rattle.al_link_image.specs.Images.{Image, image_bytes}
use Rattle.al_link_image.specs.Sizes.{lines_size}
use Rattle.al_link.specs.Kept.{IsLinked, kept_model}
use Rattle.al_link.specs.Relinking.{IsInPlace, LinkedImage, exchanged, piece, with_bytes}
use Rattle.al_link.specs.Units.{AreWithin, UnitObject, unit_model}
use Rattle.al_link.proofs.ExchangeLemmas.{bytes_exchanged, count_exchanged, is_there, kept_exchanged, linked_exchanged, room_exchanged, whole_exchanged, within_exchanged}
use Rattle.al_link.proofs.linked.Linked.write_one.Goals as goal

pub index-requires : goal.index-requires
index-requires c =
    let s = c.self.inside in
    let us : List UnitObject = map kept_model s.kept.items in
    let u : UnitObject = unit_model c.args.unit.now in
    let i : IsInPlace us c.args.at u = subst (λ (l : LinkedImage). IsInPlace l.units c.args.at u) (sym c.self.view_is) c.requires in
    let p : ImageParts = c.taken-parts.result in
    let there = is_there s.main us s.image s.places s.start.items p c.self.invariant.0 c.taken-parts.ensures.value c.taken-parts.ensures.whole c.args.at u i in
    let ok = p.objects.ok in
    omega (arith, there, ok.0)

pub write_over-requires-clause-fits : goal.write_over-requires-clause-fits
write_over-requires-clause-fits c =
    let s = c.self.inside in
    let us : List UnitObject = map kept_model s.kept.items in
    let u : UnitObject = unit_model c.args.unit.now in
    let i : IsInPlace us c.args.at u = subst (λ (l : LinkedImage). IsInPlace l.units c.args.at u) (sym c.self.view_is) c.requires in
    let p : ImageParts = c.taken-parts.result in
    let room = room_exchanged s.main us s.image s.places s.start.items p c.self.invariant.0 c.taken-parts.ensures.value c.taken-parts.ensures.whole c.args.at u i c.index.result.now c.index.ensures in
    omega (arith, room, ap (λ (bs : List ℕ). length bs) c.deref_mut.ensures.value)

pub new-requires : goal.new-requires
new-requires c =
    let s = c.self.inside in
    let us : List UnitObject = map kept_model s.kept.items in
    let u : UnitObject = unit_model c.args.unit.now in
    let i : IsInPlace us c.args.at u = subst (λ (l : LinkedImage). IsInPlace l.units c.args.at u) (sym c.self.view_is) c.requires in
    let p : ImageParts = c.taken-parts.result in
    let o : ImageObject = c.index.result.now in
    let code : List ℕ = c.write_over.new.code in
    let stays : (with_items p.code code).items ≡ code = with_items_is p.code code (c.write_over.auto.code ∙ c.deref_mut.ensures.len) in
    let same : length code ≡ length p.code.items = c.write_over.auto.code ∙ ap (λ (bs : List ℕ). length bs) c.deref_mut.ensures.value in
    let written : code ≡ with_bytes p.code.items o.place (piece s.places u) = c.write_over.ensures.code ∙ ap (λ (bs : List ℕ). with_bytes bs o.place (piece s.places u)) c.deref_mut.ensures.value in
    whole_exchanged s.main us s.image s.places s.start.items p c.self.invariant.0 c.taken-parts.ensures.value c.taken-parts.ensures.whole c.args.at u i c.keeps.ensures o c.index.ensures code stays same written

pub invariant_of-self : goal.invariant_of-self
invariant_of-self c =
    let s = c.self.inside in
    let us : List UnitObject = map kept_model s.kept.items in
    let u : UnitObject = unit_model c.args.unit.now in
    let i : IsInPlace us c.args.at u = subst (λ (l : LinkedImage). IsInPlace l.units c.args.at u) (sym c.self.view_is) c.requires in
    let p : ImageParts = c.taken-parts.result in
    let o : ImageObject = c.index.result.now in
    let code : List ℕ = c.write_over.new.code in
    let stays : (with_items p.code code).items ≡ code = with_items_is p.code code (c.write_over.auto.code ∙ c.deref_mut.ensures.len) in
    let same : length code ≡ length p.code.items = c.write_over.auto.code ∙ ap (λ (bs : List ℕ). length bs) c.deref_mut.ensures.value in
    let written : code ≡ with_bytes p.code.items o.place (piece s.places u) = c.write_over.ensures.code ∙ ap (λ (bs : List ℕ). with_bytes bs o.place (piece s.places u)) c.deref_mut.ensures.value in
    let seen = kept_exchanged s.kept.items c.args.at u i c.index_mut.result.now c.keep_code-self-inside.new.kept c.index_mut.ensures.value c.keep_code-self-inside.ensures.kept in
    let all = linked_exchanged s.main us s.image s.places s.start.items p c.self.invariant.0 c.taken-parts.ensures.value c.taken-parts.ensures.whole c.args.at u i c.keeps.ensures o c.index.ensures code stays same written c.new.result c.new.ensures in
    let written_bytes : c.write_over.new.bytes ≡ with_bytes s.bytes.items (c.code_place-front.result + o.place) (piece s.places u) =
    c.write_over.ensures.bytes ∙ ap (λ (bs : List ℕ). with_bytes bs (c.code_place-front.result + o.place) (piece s.places u)) c.deref_mut-2.ensures.value in
    let ok = s.bytes.ok in
    let size : c.code_place-front.result + length p.code.items + lines_size (option_map (λ v. v.items) p.lines) ≡ length s.bytes.items = c.code_place-front.ensures ∙ c.len.ensures ∙ ok.0 in
    let bytes = bytes_exchanged s.main us s.image s.places s.start.items p c.self.invariant.0 c.taken-parts.ensures.value c.taken-parts.ensures.whole c.args.at u i c.keeps.ensures o c.index.ensures code stays same written s.bytes.items c.code_place-front.result c.self.invariant.1 size in (
      subst (λ (ws : List UnitObject). IsLinked s.main ws c.new.result s.places s.start.items) (sym seen) all,
      with_items_is s.bytes c.write_over.new.bytes (c.write_over.auto.bytes ∙ c.deref_mut-2.ensures.len) ∙ written_bytes ∙ bytes ∙ sym (ap (λ (j : Image). image_bytes j) c.new.ensures),
    )

pub returns-clause-linked : goal.returns-clause-linked
returns-clause-linked c =
    let s = c.self.inside in
    let us : List UnitObject = map kept_model s.kept.items in
    let u : UnitObject = unit_model c.args.unit.now in
    let i : IsInPlace us c.args.at u = subst (λ (l : LinkedImage). IsInPlace l.units c.args.at u) (sym c.self.view_is) c.requires in
    let seen = kept_exchanged s.kept.items c.args.at u i c.index_mut.result.now c.keep_code-self-inside.new.kept c.index_mut.ensures.value c.keep_code-self-inside.ensures.kept in
    let counted = count_exchanged s.kept.items c.args.at u i c.index_mut.result.now c.keep_code-self-inside.new.kept c.index_mut.ensures.value c.keep_code-self-inside.ensures.kept c.keep_code-self-inside.result c.keep_code-self-inside.ensures.differs in
    let with_units : List UnitObject → ℕ → LinkedImage = λ ws n. record { main = s.main; units = ws; patched = n } in
    ap (λ (ws : List UnitObject). with_units ws c.keep_code-self-inside.result) seen
    ∙ ap (λ (n : ℕ). with_units (set us c.args.at u) n) counted
    ∙ ap (λ (l : LinkedImage). exchanged l c.args.at u) c.self.view_is

pub returns-clause-within : goal.returns-clause-within
returns-clause-within c =
    let s = c.self.inside in
    let us : List UnitObject = map kept_model s.kept.items in
    let u : UnitObject = unit_model c.args.unit.now in
    let i : IsInPlace us c.args.at u = subst (λ (l : LinkedImage). IsInPlace l.units c.args.at u) (sym c.self.view_is) c.requires in
    let p : ImageParts = c.taken-parts.result in
    let seen = kept_exchanged s.kept.items c.args.at u i c.index_mut.result.now c.keep_code-self-inside.new.kept c.index_mut.ensures.value c.keep_code-self-inside.ensures.kept in
    subst (λ (ws : List UnitObject). AreWithin ws) (sym seen) (within_exchanged s.main us s.image s.places s.start.items p c.self.invariant.0 c.taken-parts.ensures.value c.taken-parts.ensures.whole c.args.at u i)
