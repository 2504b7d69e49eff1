use Rattle.std.proofs.Common.{◌≡◌, ℕ, ◌+◌, ◌-◌, ◌/◌, ◌<◌, ◌≤◌, map, length, get_or, ap, sym, ◌∙◌, arith}
use Rattle.std.specs.declared.cmp.Ordering.TheVariants.{Less, Equal, Greater}
use Rattle.std.proofs.lemmas.List.{length-map}
use Rattle.al_base.specs.Batch.{Key, key_of}
use Rattle.al_unit_graph.specs.Orders.{key_cmp}
use Rattle.al_unit_faults.proofs.PlaceLemmas.{narrowed_low, narrowed_high, narrowed_none, key_at, equal_there}
use Rattle.al_unit_faults.proofs.places.place_of.Goals as goal

pub places-preserved-in-Less : goal.places-preserved-in-Less
places-preserved-in-Less c =
    let keys = c.args.units.now in
    let k : Key = (key_of c.args.key.now) in
    let low = c.places.low in
    let high = c.places.high in
    let m = low + (high - low) / 2 in
    let test = c.places-test.true in
    let within = c.places.invariant.within in
    let len = length-map keys key_of in
    let is = ap (λ (x : Key). key_cmp x k) (key_at keys m c.index-units-middle.result k (omega (arith, test, within, len)) c.index-units-middle.is) ∙ sym c.in-Less.ensures in
    narrowed_low (map key_of keys) k low high m c.requires c.places.invariant (omega (arith, test)) is

pub returns-in-Equal : goal.returns-in-Equal
returns-in-Equal c =
    let keys = c.args.units.now in
    let k : Key = (key_of c.args.key.now) in
    let low = c.places.low in
    let high = c.places.high in
    let m = low + (high - low) / 2 in
    let test = c.places-test.true in
    let within = c.places.invariant.within in
    let len = length-map keys key_of in
    let there = key_at keys m c.index-units-middle.result k (omega (arith, test, within, len)) c.index-units-middle.is in
    (omega (arith, test, within), equal_there (get_or (map key_of keys) m k) k (ap (λ (x : Key). key_cmp x k) there ∙ sym c.in-Equal.ensures))

pub places-preserved : goal.places-preserved
places-preserved c =
    let keys = c.args.units.now in
    let k : Key = (key_of c.args.key.now) in
    let low = c.places.low in
    let high = c.places.high in
    let m = low + (high - low) / 2 in
    let test = c.places-test.true in
    let within = c.places.invariant.within in
    let len = length-map keys key_of in
    let is = ap (λ (x : Key). key_cmp x k) (key_at keys m c.index-units-middle.result k (omega (arith, test, within, len)) c.index-units-middle.is) ∙ sym c.in-Greater.ensures in
    narrowed_high (map key_of keys) k low high m c.requires c.places.invariant (omega (arith, test)) (omega (arith, test)) is

pub returns : goal.returns
returns c = narrowed_none (map key_of c.args.units.now) (key_of c.args.key.now) c.places.low c.places.high c.places.invariant c.places-test.false
