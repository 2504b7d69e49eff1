use Rattle.std.proofs.Common.{◌≡◌, IsOk, ◌+◌, ◌∙◌, ℕ, List, length, map, refl, sym, ap, subst, arith}
use Rattle.std.specs.Vec.{with_items}
use Rattle.std.proofs.lemmas.List.{with_items_is}
use Rattle.al_link_image.specs.declared.parts.ImageParts.{ImageParts}
use Rattle.al_link_image.specs.declared.parts.Region.{Region}
use Rattle.al_link_image.specs.Images.{Image, image_bytes}
use Rattle.al_link_image.specs.Parts.{IsCode, IsWhole}
use Rattle.al_link.specs.Kept.{IsLinked, kept_model}
use Rattle.al_link.specs.Partitions.{compiled_units}
use Rattle.al_link.specs.Relinking.{LinkedImage, code_size, linked_units, regions_count, regions_from, shapes_kept, shapes_left}
use Rattle.al_link.specs.Units.{UnitObject}
use Rattle.al_link.specs.declared.kept.KeptUnit.{KeptUnit}
use Rattle.al_link.proofs.AgainLemmas.{count_again, linked_again, room_again, whole_again, words_again}
use Rattle.al_link.proofs.RegionLemmas.{on_ok, regions_length}
use Rattle.al_link.proofs.SizeLemmas.{again_size}
use Rattle.al_link.proofs.ShapeLemmas.{AreAlike, left_shapes, linkable_same}
use Rattle.al_link.proofs.linked.Linked.write_again.Goals as goal

pub refill-filled-requires : goal.refill-filled-requires
refill-filled-requires c =
    let s = c.self.inside in
    let us : List UnitObject = map kept_model s.kept.items in
    let vs : List UnitObject = compiled_units c.args.units.now in
    let e : shapes_left c.args.units.now ≡ shapes_kept us = c.requires ∙ ap (λ (l : LinkedImage). shapes_kept l.units) (sym c.self.view_is) in
    words_again s.main us vs s.image s.places s.start.items c.taken-parts.result c.self.invariant.0 (left_shapes c.args.units.now us e) c.taken-parts.ensures.value c.taken-parts.ensures.whole

pub write_all-requires-clause-size : goal.write_all-requires-clause-size
write_all-requires-clause-size c =
    let s = c.self.inside in
    let us : List UnitObject = map kept_model s.kept.items in
    let vs : List UnitObject = compiled_units c.args.units.now in
    let e : shapes_left c.args.units.now ≡ shapes_kept us = c.requires ∙ ap (λ (l : LinkedImage). shapes_kept l.units) (sym c.self.view_is) in
    ap (λ (xs : List ℕ). length xs + code_size vs) c.deref.ensures.value
    ∙ room_again s.main us vs s.image s.places s.start.items c.taken-parts.result c.self.invariant.0 (left_shapes c.args.units.now us e) c.taken-parts.ensures.value c.taken-parts.ensures.whole
    ∙ sym (ap (λ (xs : List ℕ). length xs) c.deref_mut.ensures.value)

pub returns-clause-within : goal.returns-clause-within
returns-clause-within c =
    let us : List UnitObject = map kept_model c.self.inside.kept.items in
    let e : shapes_left c.args.units.now ≡ shapes_kept us = c.requires ∙ ap (λ (l : LinkedImage). shapes_kept l.units) (sym c.self.view_is) in
    linkable_same c.args.units.now us e c.self.invariant.0.within

pub new-requires : goal.new-requires
new-requires c =
    let s = c.self.inside in
    let us : List UnitObject = map kept_model s.kept.items in
    let vs : List UnitObject = compiled_units c.args.units.now in
    let e : shapes_left c.args.units.now ≡ shapes_kept us = c.requires ∙ ap (λ (l : LinkedImage). shapes_kept l.units) (sym c.self.view_is) in
    let alike : AreAlike vs us = left_shapes c.args.units.now us e in
    let p0 : ImageParts = c.taken-parts.result in
    let room : regions_count vs ≡ length p0.protected.items = count_again s.main us vs s.image s.places s.start.items p0 c.self.invariant.0 alike c.taken-parts.ensures.value c.taken-parts.ensures.whole in
    let done : IsOk c.refill-filled.result = c.refill-filled.ensures.succeeds (let ok = p0.protected.ok in omega (arith, room, ok.0, ok.1)) in
    let code : List ℕ = c.write_all.new.code in
    let p : ImageParts = record { tasks = p0.tasks; data_words = p0.data_words; protected = c.refill-filled.new.regions; objects = p0.objects; code = with_items p0.code code; lines = p0.lines } in
    let is : p.code.items ≡ code = with_items_is p0.code code (c.write_all.auto.code ∙ c.deref_mut.ensures.len) in
    let n : length code ≡ length p0.code.items = c.write_all.auto.code ∙ ap (λ (xs : List ℕ). length xs) c.deref_mut.ensures.value in
    let regions : p.protected.items ≡ regions_from 0 vs = on_ok c.refill-filled.result _ done c.refill-filled.ensures.value in
    whole_again s.main us vs s.image s.places s.start.items p0 c.self.invariant.0 alike c.taken-parts.ensures.value c.taken-parts.ensures.whole p refl refl regions (on_ok c.refill-filled.result _ done c.refill-filled.ensures.fit) refl (subst (λ (xs : List ℕ). IsCode xs) (sym is) c.write_all.ensures.is_code) (ap (λ (xs : List ℕ). length xs) is ∙ n) refl

pub invariant_of-self : goal.invariant_of-self
invariant_of-self c =
    let s = c.self.inside in
    let us : List UnitObject = map kept_model s.kept.items in
    let vs : List UnitObject = compiled_units c.args.units.now in
    let e : shapes_left c.args.units.now ≡ shapes_kept us = c.requires ∙ ap (λ (l : LinkedImage). shapes_kept l.units) (sym c.self.view_is) in
    let alike : AreAlike vs us = left_shapes c.args.units.now us e in
    let p0 : ImageParts = c.taken-parts.result in
    let room : regions_count vs ≡ length p0.protected.items = count_again s.main us vs s.image s.places s.start.items p0 c.self.invariant.0 alike c.taken-parts.ensures.value c.taken-parts.ensures.whole in
    let done : IsOk c.refill-filled.result = c.refill-filled.ensures.succeeds (let ok = p0.protected.ok in omega (arith, room, ok.0, ok.1)) in
    let code : List ℕ = c.write_all.new.code in
    let p : ImageParts = record { tasks = p0.tasks; data_words = p0.data_words; protected = c.refill-filled.new.regions; objects = p0.objects; code = with_items p0.code code; lines = p0.lines } in
    let is : p.code.items ≡ code = with_items_is p0.code code (c.write_all.auto.code ∙ c.deref_mut.ensures.len) in
    let n : length code ≡ length p0.code.items = c.write_all.auto.code ∙ ap (λ (xs : List ℕ). length xs) c.deref_mut.ensures.value in
    let regions : p.protected.items ≡ regions_from 0 vs = on_ok c.refill-filled.result _ done c.refill-filled.ensures.value in
    let w : code ≡ linked_units s.places s.start.items vs = c.write_all.ensures.written ∙ ap (λ (xs : List ℕ). linked_units s.places xs vs) c.deref.ensures.value in
    let is_code : IsCode p.code.items = subst (λ (xs : List ℕ). IsCode xs) (sym is) c.write_all.ensures.is_code in
    let len : length p.code.items ≡ length p0.code.items = ap (λ (xs : List ℕ). length xs) is ∙ n in
    let all : IsLinked s.main vs c.new.result s.places s.start.items =
    linked_again s.main us vs s.image s.places s.start.items p0 c.self.invariant.0 alike c.taken-parts.ensures.value c.taken-parts.ensures.whole c.write_all.ensures.keep p c.new.result refl refl regions refl (is ∙ w) is_code len refl c.new.ensures in
    let whole : IsWhole p =
    whole_again s.main us vs s.image s.places s.start.items p0 c.self.invariant.0 alike c.taken-parts.ensures.value c.taken-parts.ensures.whole p refl refl regions (on_ok c.refill-filled.result _ done c.refill-filled.ensures.fit) refl is_code len refl in
    let count : length p.protected.items ≡ length p0.protected.items = ap (λ (rs : List Region). length rs) regions ∙ regions_length 0 vs ∙ room in
    let size : length (image_bytes c.new.result) ≡ length (image_bytes s.image) =
    ap (λ (i : Image). length (image_bytes i)) c.new.ensures ∙ again_size p p0 whole c.taken-parts.ensures.whole count refl len refl ∙ sym (ap (λ (i : Image). length (image_bytes i)) c.taken-parts.ensures.value) in
    let old : length s.bytes.items ≡ length (image_bytes s.image) = ap (λ (bs : List ℕ). length bs) c.self.invariant.1 in
    let wrote : IsOk c.bytes_into-written.result = c.bytes_into-written.ensures.succeeds (let ok = s.bytes.ok in omega (arith, size, old, ok.0, ok.1)) in
    let kept : (with_items s.kept c.keep_all-self-inside.new.kept).items ≡ c.keep_all-self-inside.new.kept = with_items_is s.kept c.keep_all-self-inside.new.kept (c.keep_all-self-inside.auto.kept ∙ c.deref_mut-2.ensures.len) in
    let seen : map kept_model (with_items s.kept c.keep_all-self-inside.new.kept).items ≡ vs = ap (λ (ks : List KeptUnit). map kept_model ks) kept ∙ c.keep_all-self-inside.ensures.kept in
    (subst (λ (ws : List UnitObject). IsLinked s.main ws c.new.result s.places s.start.items) (sym seen) all, on_ok c.bytes_into-written.result _ wrote c.bytes_into-written.ensures.value)
