use Rattle.std.proofs.Common.{◌≡◌, ◌∙◌, ℕ, List, map, ap, sym, subst}
use Rattle.std.specs.List.{Contains}
use Rattle.std.specs.Cmp.Lexicographic.{bytes_decides}
use Rattle.al_base.specs.Batch.{key_of}
use Rattle.al_base.specs.declared.unit_key.UnitKey.{UnitKey}
use Rattle.al_bind.specs.Binding.{IsElaboration}
use Rattle.al_unit_graph.proofs.Lists.{into_map}
use Rattle.al_engine.specs.declared.orders.KnownOrder.{KnownOrder}
use Rattle.al_engine.proofs.orders.order_of.Goals as goal

pub returns-then-eq : goal.returns-then-eq
returns-then-eq c = λ lib are.
    let known = c.known-item.result in
    let o = known.value in
    let listed : Contains (map (λ x. x.value) c.args.orders.now) o = into_map (λ x. x.value) c.args.orders.now known (c.loop-known.known-index, c.loop-known-test.true, sym c.known-item.is) in
    let main : o.main ≡ c.args.main.now =
    sym (c.as_slice.ensures ∙ ap (λ (x : KnownOrder). x.main) c.deref.ensures) ∙ (bytes_decides c.as_slice.result.now c.args.main.now).0 (sym c.eq.ensures ∙ c.if-eq.true) in
    let order : c.as_slice-then-eq.result.now ≡ o.order.items = c.as_slice-then-eq.ensures.value ∙ ap (λ (x : KnownOrder). x.order.items) c.deref-then-eq.ensures in
    subst (λ (us : List UnitKey). IsElaboration lib c.args.main.now (map key_of us)) (sym order) (subst (λ (m : List ℕ). IsElaboration lib m (map key_of o.order.items)) main (are o listed))
