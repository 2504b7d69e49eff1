use Rattle.std.proofs.Common.{◌≡◌, ◌∙◌, ℕ, IsOk, List, Some, length, refl, sym, ap, subst, arith}
use Rattle.std.specs.Vec.{with_items}
use Rattle.std.proofs.lemmas.List.{with_items_is}
use Rattle.al_link_image.specs.declared.parts.ImageParts.{ImageParts}
use Rattle.al_link_image.specs.Images.{Image, image_bytes}
use Rattle.al_link_image.specs.Parts.{IsCode, IsWhole}
use Rattle.al_link.specs.declared.bases.Bases.{Bases}
use Rattle.al_link.specs.Kept.{IsLinked, prepared_size}
use Rattle.al_link.specs.Partitions.{compiled_units}
use Rattle.al_link.specs.Relinking.{linked_units}
use Rattle.al_link.specs.Units.{UnitObject, totals}
use Rattle.al_link.proofs.AgainLemmas.{made_linked, made_whole}
use Rattle.al_link.proofs.RegionLemmas.{on_ok}
use Rattle.al_link.proofs.SizeLemmas.{made_size}
use Rattle.al_link.proofs.linked.make.Goals as goal

pub new-image-requires : goal.new-image-requires
new-image-requires c =
    let q = c.args.fresh.prepared in
    let code : List ℕ = c.write_all.new.code in
    let p : ImageParts = record { tasks = q.totals.tasks; data_words = q.totals.words; protected = q.protected; objects = q.objects; code = with_items c.args.code code; lines = Some q.lines } in
    let is : p.code.items ≡ code = with_items_is c.args.code code (c.write_all.auto.code ∙ c.deref_mut.ensures.len) in
    let n : length code ≡ (totals (compiled_units c.args.units.now)).code = c.write_all.auto.code ∙ ap (λ (xs : List ℕ). length xs) c.deref_mut.ensures.value ∙ c.requires.room in
    made_whole c.args.fresh.main (compiled_units c.args.units.now) q p c.requires.prepared refl refl refl refl (subst (λ (xs : List ℕ). IsCode xs) (sym is) c.write_all.ensures.is_code) (ap (λ (xs : List ℕ). length xs) is ∙ n) refl

pub invariant_of-result : goal.invariant_of-result
invariant_of-result c =
    let q = c.args.fresh.prepared in
    let us : List UnitObject = compiled_units c.args.units.now in
    let code : List ℕ = c.write_all.new.code in
    let p : ImageParts = record { tasks = q.totals.tasks; data_words = q.totals.words; protected = q.protected; objects = q.objects; code = with_items c.args.code code; lines = Some q.lines } in
    let is : p.code.items ≡ code = with_items_is c.args.code code (c.write_all.auto.code ∙ c.deref_mut.ensures.len) in
    let n : length code ≡ (totals us).code = c.write_all.auto.code ∙ ap (λ (xs : List ℕ). length xs) c.deref_mut.ensures.value ∙ c.requires.room in
    let w : code ≡ linked_units q.places q.start.items us = c.write_all.ensures.written ∙ ap (λ (xs : List ℕ). linked_units q.places xs us) c.deref.ensures.value in
    let is_code : IsCode p.code.items = subst (λ (xs : List ℕ). IsCode xs) (sym is) c.write_all.ensures.is_code in
    let len : length p.code.items ≡ (totals us).code = ap (λ (xs : List ℕ). length xs) is ∙ n in
    let all : IsLinked c.args.fresh.main us c.new-image.result q.places q.start.items =
    made_linked c.args.fresh.main us q p c.new-image.result c.requires.prepared c.write_all.ensures.keep refl refl refl refl (is ∙ w) is_code len refl c.new-image.ensures in
    let whole : IsWhole p = made_whole c.args.fresh.main us q p c.requires.prepared refl refl refl refl is_code len refl in
    let size : length (image_bytes c.new-image.result) ≡ prepared_size q =
    ap (λ (i : Image). length (image_bytes i)) c.new-image.ensures ∙ made_size q p whole refl refl (len ∙ sym (ap (λ (b : Bases). b.code) c.requires.prepared.totals_are)) refl in
    let done : IsOk c.bytes_into-written.result = c.bytes_into-written.ensures.succeeds (omega (arith, size, c.requires.bytes_room)) in
    (subst (λ (vs : List UnitObject). IsLinked c.args.fresh.main vs c.new-image.result q.places q.start.items) (sym c.requires.kept) all, on_ok c.bytes_into-written.result _ done c.bytes_into-written.ensures.value)
