use Rattle.std.proofs.Common.{◌≡◌, ◌∷◌, ◌++◌, ◌∙◌, ℕ, [], List, map, ap, sym, subst}
use Rattle.std.proofs.lemmas.List.{map-append}
use Rattle.al_base.specs.Batch.{key_of}
use Rattle.al_base.specs.declared.unit_key.UnitKey.{UnitKey}
use Rattle.al_bind.specs.Binding.{IsElaboration}
use Rattle.al_engine.specs.Graphs.{AreElaborations, IsOrderOf}
use Rattle.al_engine.specs.declared.orders.KnownOrder.{KnownOrder}
use Rattle.al_engine.specs.declared.planned.Planned.{Planned}
use Rattle.al_engine.proofs.Taken.{order_more}
use Rattle.al_engine.proofs.orders.add_order.Goals as goal

pub returns : goal.returns
returns c = λ lib is are.
    let before = map (λ o. o.value) c.args.orders.now.items in
    let known = c.in_ok-known.known in
    let units : known.value.order.items ≡ c.in-Linkable.partition.order.items = ap (λ (o : KnownOrder). o.order.items) c.in_ok-known.ensures.ok ∙ c.in_ok-order.ensures ∙ c.as_slice.ensures.value in
    let main : known.value.main ≡ c.args.main.now = ap (λ (o : KnownOrder). o.main) c.in_ok-known.ensures.ok ∙ c.in_ok-main.ensures in
    let order : IsElaboration lib c.args.main.now (map key_of c.in-Linkable.partition.order.items) = subst (λ (p : Planned). IsOrderOf lib c.args.main.now p) c.in-Linkable.is is in
    let here : IsElaboration lib known.value.main (map key_of known.value.order.items) =
    subst (λ (us : List UnitKey). IsElaboration lib known.value.main (map key_of us)) (sym units) (subst (λ (m : List ℕ). IsElaboration lib m (map key_of c.in-Linkable.partition.order.items)) (sym main) order) in
    let more : map (λ o. o.value) c.push.new.self.items ≡ before ++ known.value ∷ [] = ap (map (λ o. o.value)) c.in_ok-push.ensures.items ∙ map-append (λ o. o.value) c.args.orders.now.items (known ∷ []) in
    subst (AreElaborations lib) (sym more) (order_more lib before known.value are here)
