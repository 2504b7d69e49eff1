use Rattle.std.proofs.Common.{◌≡◌, ℕ, List, Result, Ok, Err, Vec, Global, map, length, subst, sym, ap, ◌∙◌}
use Rattle.std.specs.Result.{MatchResult}
use Rattle.al_base.specs.Batch.{Key, key_of}
use Rattle.al_base.specs.declared.unit_key.UnitKey.{UnitKey}
use Rattle.al_base_graph.specs.Orders.{IsCycle, IsOrdered}
use Rattle.al_base_graph.specs.declared.cycle.Cycle.{Cycle}
use Rattle.al_unit_faults.proofs.UnitOrderLemmas.{no_cycle, nodes_in, order_of_units, steps_of_items, within_items}
use Rattle.al_unit_faults.specs.Reached.{IsDependenceOrder}
use Rattle.al_unit_faults.specs.Steps.{key_at}
use Rattle.al_unit_faults.proofs.ordering.dependence_order.Goals as goal

abbrev FromAnswers : List (List ℕ) → Result (Vec ℕ Global) Cycle → Type 0
FromAnswers g r = MatchResult r (λ order. IsOrdered g order.items) (λ cycle. IsCycle g cycle.nodes.items)

pub unreachable-requires : goal.unreachable-requires
unreachable-requires c =
    let lib = c.args.sources.now in
    let g = c.in_ok-graph.graph in
    let items = c.in_ok-units.units.items in
    let below = steps_of_items lib c.as_slice.result.now items g c.as_slice.ensures.value c.in_ok-graph.ensures in
    let told : FromAnswers g (Err c.in-Err.field-0) = subst (FromAnswers g) c.in-Err.is c.in_ok-places.ensures in
    let nodes = c.in-Err.field-0.nodes.items in
    no_cycle lib (map key_of items) g c.in_ok-units.ensures below nodes (λ i l. c.cycle_is_of_steps.ensures.steps g nodes told i l) told.some

pub units_at-requires : goal.units_at-requires
units_at-requires c =
    let lib = c.args.sources.now in
    let g = c.in_ok-graph.graph in
    let items = c.in_ok-units.units.items in
    let below = steps_of_items lib c.as_slice.result.now items g c.as_slice.ensures.value c.in_ok-graph.ensures in
    let told : FromAnswers g (Ok c.in-Ok.places) = subst (FromAnswers g) c.in-Ok.is c.in_ok-places.ensures in
    within_items items c.as_slice-in-Ok.result.now c.in-Ok.places.items c.as_slice-in-Ok-2.result.now c.as_slice-in-Ok.ensures.value c.as_slice-in-Ok-2.ensures.value (nodes_in lib (map key_of items) g c.in_ok-units.ensures below c.in-Ok.places.items told.0)

pub returns : goal.returns
returns c =
    let lib = c.args.sources.now in
    let g = c.in_ok-graph.graph in
    let items = c.in_ok-units.units.items in
    let order = c.in-Ok.places.items in
    let below = steps_of_items lib c.as_slice.result.now items g c.as_slice.ensures.value c.in_ok-graph.ensures in
    let told : FromAnswers g (Ok c.in-Ok.places) = subst (FromAnswers g) c.in-Ok.is c.in_ok-places.ensures in
    let same : map key_of c.in_ok-list-in-Ok.list.items ≡ map (key_at (map key_of items)) order =
    c.in_ok-list-in-Ok.ensures ∙ ap (λ (us : List UnitKey). map (key_at (map key_of us)) c.as_slice-in-Ok-2.result.now) c.as_slice-in-Ok.ensures.value ∙ ap (λ (ns : List ℕ). map (key_at (map key_of items)) ns) c.as_slice-in-Ok-2.ensures.value in
    subst (λ (ks : List Key). IsDependenceOrder lib ks) (sym same) (order_of_units lib (map key_of items) g c.in_ok-units.ensures below order told.0)
