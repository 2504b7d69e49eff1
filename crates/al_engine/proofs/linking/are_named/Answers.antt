use Rattle.std.proofs.Common.{◌≡◌, false, ap, sym, ◌∙◌, arith}
use Rattle.std.proofs.lemmas.Grind.{common_steps}
use Rattle.std.proofs.lemmas.List.Folds.{list_all-map, list_all_at}
use Rattle.al_engine.specs.Objects.{WithObject, is_unit_name}
use Rattle.al_engine.specs.ObjectsSeen.{object_model}
use Rattle.al_engine.proofs.linking.are_named.Goals as goal

pub returns-then-not-is_unit_name : goal.returns-then-not-is_unit_name
returns-then-not-is_unit_name c =
    let objects = c.args.objects.now in
    let item = c.unit-item.result in
    let bad : is_unit_name item.value.key.name ≡ false = grind (arith, common_steps, c.is_unit_name.ensures, c.as_slice.ensures, c.deref.ensures, c.if-not-is_unit_name.true) in
    sym (
    list_all-map (λ (u : WithObject). is_unit_name u.0.name) object_model objects
    ∙ list_all_at (λ u. is_unit_name u.value.key.name) objects c.loop-unit.unit-index item c.loop-unit-test.true (ap (λ u. is_unit_name u.value.key.name) (sym c.unit-item.is) ∙ bad)
    )
