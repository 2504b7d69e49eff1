use Rattle.std.proofs.Common.{◌≡◌, ◌+◌, ◌++◌, ◌∷◌, [], List, map, take, ap, sym, subst, arith}
use Rattle.std.proofs.lemmas.Grind.{common_steps}
use Rattle.al_base.specs.Batch.{Key, key_of}
use Rattle.al_engine.specs.Placed.{ArePlaced, nothing}
use Rattle.al_engine.proofs.PlacedLemmas.{placed-more}
use Rattle.al_engine.proofs.placing.placed.Goals as goal

pub loop-item-init : goal.loop-item-init
loop-item-init c = subst (λ (ks : List Key). ArePlaced c.args.sources.now [] ks) (sym (ap (map key_of) c.new-placed.ensures.items)) nothing

pub loop-item-preserved : goal.loop-item-preserved
loop-item-preserved c =
    let lib = c.args.sources.now in
    let key = key_of c.item-item.result in
    let so_far = map key_of (take c.loop-item.item-index c.args.items.now) in
    let one_more : map key_of (take (c.loop-item.item-index + 1) c.args.items.now) ≡ so_far ++ key ∷ [] = grind (arith, common_steps, c.loop-item-test.true, c.item-item.is) in
    let added = c.in_ok-add_item.ensures in
    subst (λ (ks : List Key). ArePlaced lib ks (map key_of c.add_item.new.placed.items)) (sym one_more)
    (subst (λ (ks : List Key). ArePlaced lib (so_far ++ key ∷ []) ks) (sym added.2)
    (placed-more lib so_far (map key_of c.loop-item.placed.items) key added.0 c.loop-item.invariant added.1))
