use Rattle.std.proofs.Common.{map}
use Rattle.al_base.specs.Batch.{key_of}
use Rattle.al_unit_graph.specs.Closures.{next, is_same_key, AreAlike}
use Rattle.al_unit_graph.proofs.ClosureLemmas.{IsClosedTo}
use Rattle.al_unit_graph.proofs.source.Sources.reached.Given as goal

abbrev pub invariant-loop-i : goal.invariant-loop-i
invariant-loop-i l =
    IsClosedTo (next l.self l.step) (map key_of l.first) (map key_of l.list.keys.items) l.i
    × AreAlike is_same_key (map (λ s. (s.0.items, s.1)) l.list.seen.keys) (map key_of l.list.keys.items)
