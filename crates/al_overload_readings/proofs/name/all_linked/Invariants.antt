use Rattle.std.proofs.Common.{◌≡◌, length}
use Rattle.al_overload_lookup.specs.Keys.{denoted}
use Rattle.al_overload_readings.specs.Noted.{all_linked, noted_model}
use Rattle.al_overload_readings.proofs.name.all_linked.Given as goal

abbrev pub invariant-loop-link : goal.invariant-loop-link
invariant-loop-link l = all_linked (denoted l.names) l.links.items (noted_model l.name) ≡ all_linked (denoted l.names) l.fn.links.items (noted_model l.fn.first)

abbrev pub decreases-loop-link : goal.decreases-loop-link
decreases-loop-link l = length l.links.items
