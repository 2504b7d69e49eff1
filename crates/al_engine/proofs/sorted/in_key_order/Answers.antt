use Rattle.std.proofs.Common.{◌≡◌, ◌+◌, ◌++◌, ◌∷◌, [], map, take, ap, sym, ◌∙◌, arith}
use Rattle.std.proofs.lemmas.Grind.{common_steps}
use Rattle.std.specs.BTreeSet.{insert_key}
use Rattle.al_base.specs.Batch.{key_of}
use Rattle.al_base.specs.declared.unit_key.UnitKey.{UnitKey}
use Rattle.al_unit_graph.specs.Orders.{in_order, key_cmp}
use Rattle.al_engine.proofs.KeyOrders.{in_order-more, in_order-none}
use Rattle.al_engine.proofs.sorted.in_key_order.Goals as goal

pub loop-unit-init : goal.loop-unit-init
loop-unit-init c = c.new-keys.ensures ∙ sym in_order-none

pub loop-unit-preserved : goal.loop-unit-preserved
loop-unit-preserved c =
    let key = key_of c.unit-item.result in
    let so_far = map key_of (take c.loop-unit.unit-index c.args.units.now) in
    let one_more : map key_of (take (c.loop-unit.unit-index + 1) c.args.units.now) ≡ so_far ++ key ∷ [] = grind (arith, common_steps, c.loop-unit-test.true, c.unit-item.is) in
    c.in_ok-insert.ensures
    ∙ ap (λ ks. insert_key key_cmp ks (key_of c.in_ok-copied_unit.field-0)) c.loop-unit.invariant
    ∙ ap (λ (k : UnitKey). insert_key key_cmp (in_order so_far) (key_of k)) c.in_ok-copied_unit.ensures
    ∙ sym (in_order-more so_far key)
    ∙ ap in_order (sym one_more)
