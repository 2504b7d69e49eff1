-- The units among some keys, in order.
use Rattle.std.proofs.Common.{◌≡◌, true, ◌↔◌, List, [], ◌∷◌, ◌++◌, cond, refl, ap, sym, ◌∙◌, subst}
use Rattle.std.specs.List.{Contains, filter, fold}
use Rattle.std.specs.BTreeSet.{insert_key}
use Rattle.std.specs.List.Sorted.{IsStrictlySortedBy}
use Rattle.al_base.specs.Batch.{Key}
use Rattle.al_unit_graph.specs.Headers.{Library}
use Rattle.al_unit_graph.specs.Library.{is_unit}
use Rattle.al_unit_graph.specs.Needed.{ListsUnits}
use Rattle.al_unit_graph.specs.Orders.{key_cmp, in_order}
use Rattle.al_unit_graph.proofs.Lists.{from_filter, into_filter}
use Rattle.al_unit_graph.proofs.OrderLemmas.{from_in_order, into_in_order, in_order_ascends}

pub listed_units : (lib : Library) (keys ys : List Key) (P : Key → Type 0) → ((y : Key) → Contains ys y ↔ P y) → keys ≡ in_order (filter (is_unit lib) ys) → ListsUnits lib keys P
listed_units lib keys ys P all is =
    let units = filter (is_unit lib) ys in
    let R : List Key → Type 0 = λ ks. ListsUnits lib ks P in
    subst R (sym is) (record {
      ascend = in_order_ascends units;
      all = λ y. (
        (λ c. let f = from_filter (is_unit lib) ys y (from_in_order units y c) in ((all y).0 f.0, f.1)),
        (λ p. into_in_order units y (into_filter (is_unit lib) ys y ((all y).1 p.0) p.1)),
      );
    })
