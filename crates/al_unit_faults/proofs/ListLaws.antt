-- The list of obsolete units has just those that are obsolete, in order.
use Rattle.std.specs.List.{filter}
use Rattle.al_unit_faults.specs.Units.{keys_of_units}
use Rattle.al_unit_faults.specs.Obsolete.{is_obsolete, obsolete_of, ObsoleteAreListed, ObsoleteAscend}
use Rattle.al_unit_graph.proofs.Lists.{from_filter, into_filter}
use Rattle.al_unit_graph.proofs.OrderLemmas.{from_in_order, into_in_order, in_order_ascends}
use Rattle.al_unit_faults.proofs.ObsoleteUnitLemmas.{of_units, into_units}
use Rattle.al_unit_faults.proofs.TraceLemmas.{from_obsolete, into_obsolete}

pub obsolete_are_listed : ObsoleteAreListed
unfolding obsolete_of
obsolete_are_listed old faulty new key = (
  (λ c.
      let f = from_filter (is_obsolete old faulty new) (keys_of_units new) key (from_in_order (filter (is_obsolete old faulty new) (keys_of_units new)) key c) in
      let u = of_units new key f.0 in
      record { unit = u.0; is_unit = u.1; differs = from_obsolete old faulty new key f.1 }),
  (λ o.
      into_in_order (filter (is_obsolete old faulty new) (keys_of_units new)) key
      (into_filter (is_obsolete old faulty new) (keys_of_units new) key (into_units new key o.unit o.is_unit) (into_obsolete old faulty new key o.differs))),
)

pub obsolete_ascend : ObsoleteAscend
unfolding obsolete_of
obsolete_ascend old faulty new = in_order_ascends (filter (is_obsolete old faulty new) (keys_of_units new))
