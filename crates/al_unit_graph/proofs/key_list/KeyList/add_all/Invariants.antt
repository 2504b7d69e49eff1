use Rattle.std.proofs.Common.{◌≡◌, map, take}
use Rattle.al_base.specs.Batch.{key_of}
use Rattle.al_unit_graph.specs.Closures.{is_same_key, with_items, AreAlike}
use Rattle.al_unit_graph.proofs.key_list.KeyList.add_all.Given as goal

abbrev pub invariant-loop-key : goal.invariant-loop-key
invariant-loop-key l =
    (map key_of l.self.keys.items ≡ with_items is_same_key (map key_of l.initial.self.keys.items) (map key_of (take l.key-index l.more)))
    × AreAlike is_same_key (map (λ s. (s.0.items, s.1)) l.self.seen.keys) (map key_of l.self.keys.items)
